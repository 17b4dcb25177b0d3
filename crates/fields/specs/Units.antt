-- Amounts as the cash book writes them: minor units.
use Rattle.std.specs.Prelude.{ℕ, cond, List, drop, pos, neg_ℤ, None, Option, ◌==◌, slice_index}
use Rattle.domain.specs.declared.amount.Amount.{Amount}
use Rattle.domain.specs.Makers.{as_amount}
use Rattle.std.specs.Option.{option_and_then}
use Rattle.fields.specs.Runs.{numeral_of}

-- the amount with a minus in front, which does not stand before zero, and the amount with none
abbrev pub minus_of : Option ℕ → Option Amount
minus_of size = option_and_then (λ n. cond (n == 0) None (as_amount (neg_ℤ (pos n)))) size

abbrev pub plus_of : Option ℕ → Option Amount
plus_of size = option_and_then (λ n. as_amount (pos n)) size

-- 1 to 14 digits, with a minus (45) in front where negative
unfoldable pub units_of : List ℕ → Option Amount
units_of bytes = cond (slice_index bytes 0 == 45) (minus_of (numeral_of 14 (drop 1 bytes))) (plus_of (numeral_of 14 bytes))
