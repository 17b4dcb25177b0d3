-- The marks of balances and entries.
use Rattle.std.specs.Prelude.{ℕ, cond, List, Some, None, codes, Option}
use Rattle.domain.specs.declared.entry.Kind.{Kind}
use Rattle.domain.specs.declared.entry.Kind.TheVariants.{Ordinary, Reversal}
use Rattle.mt940_cuts.specs.declared.mark.Mark.{Mark}
use Rattle.mt940_cuts.specs.declared.mark.Mark.TheVariants.{Credit, Debit, CreditReversed, DebitReversed}
use Rattle.mt940_cuts.specs.Slices.{starts_with}

-- the mark at the front, and how many bytes it has
unfoldable pub mark_of : List ℕ → Option (Mark × ℕ)
mark_of bytes =
    cond (starts_with bytes (codes "C")) (Some (Credit, 1))
    (cond (starts_with bytes (codes "D")) (Some (Debit, 1))
    (cond (starts_with bytes (codes "RC")) (Some (CreditReversed, 2))
    (cond (starts_with bytes (codes "RD")) (Some (DebitReversed, 2))
    None)))

-- R marks a reversal
abbrev pub kind_of : Mark → Kind
kind_of Credit = Ordinary
kind_of Debit = Ordinary
kind_of CreditReversed = Reversal
kind_of DebitReversed = Reversal
