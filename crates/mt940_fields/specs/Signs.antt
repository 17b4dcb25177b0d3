-- What the marks of balances and entries say of their amounts.
use Rattle.std.specs.Prelude.{ℕ, List, neg_ℤ, Some, None, Option}
use Rattle.std.proofs.Common.{arith}
use Rattle.std.proofs.lemmas.Int.{ints}
use Rattle.domain.specs.declared.amount.Amount.{Amount}
use Rattle.domain.specs.declared.digits.Digits.{Digits}
use Rattle.domain.specs.Makers.{as_amount}
use Rattle.fields.specs.Commas.{comma_amount}
use Rattle.mt940_cuts.specs.declared.mark.Mark.{Mark}
use Rattle.mt940_cuts.specs.declared.mark.Mark.TheVariants.{Credit, Debit, CreditReversed, DebitReversed}

-- as many minor units the other way
abbrev pub opposite : Amount → Amount
opposite a = record { minor = neg_ℤ a.minor; within = (omega (arith, ints, a.within.0, a.within.1), omega (arith, ints, a.within.0, a.within.1)) }

-- C is plus and D minus; a reversal of either is the opposite
unfoldable pub signed_as : Mark → Amount → Amount
signed_as Credit a = a
signed_as Debit a = opposite a
signed_as CreditReversed a = opposite a
signed_as DebitReversed a = a

-- the same by the maker of amounts, which may refuse a number; it never does here
unfoldable pub signed_made : Mark → Amount → Option Amount
signed_made Credit a = as_amount a.minor
signed_made Debit a = as_amount (neg_ℤ a.minor)
signed_made CreditReversed a = as_amount (neg_ℤ a.minor)
signed_made DebitReversed a = as_amount a.minor

-- the amount at the front, with its sign
unfoldable pub amount_in : Digits → Mark → List ℕ → Option Amount
amount_in digits mark bytes = elim (comma_amount digits bytes) [ None ↦ None | Some p ↦ Some (signed_as mark p.0) ]
