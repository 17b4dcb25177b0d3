-- Where an amount with a decimal comma is read, and what digits are worth.
use Rattle.std.specs.Prelude.{◌≡◌, ℕ, ◌↔◌, List, Some}
use Rattle.domain.specs.declared.amount.Amount.{Amount}
use Rattle.domain.specs.declared.digits.Digits.{Digits}
use Rattle.fields.specs.Commas.{comma_amount}
use Rattle.fields.specs.Runs.{worth}
use Rattle.fields.specs.Written.{place_value, Begins}

pub record AmountsStand : Type 0 where
  -- an amount is read exactly where a text begins with one, with that value and that many bytes
  pub read : (digits : Digits) (text : List ℕ) (a : Amount) (n : ℕ) → (comma_amount digits text ≡ Some (a, n)) ↔ Begins digits text a n
  -- digits read from the front are worth what their places say
  pub places : (ds : List ℕ) → worth ds ≡ place_value ds
