-- An account: its currency, and the decimal digits of its amounts.
use Rattle.std.specs.Prelude.{ℕ, cond, List, Some, None, Ok, Err, Option, Result, ◌==◌}
use Rattle.std.specs.Option.{ok_or}
use Rattle.domain.specs.declared.account.Account.{Account}
use Rattle.domain.specs.declared.refusal.Refusal.{Refusal}
use Rattle.domain.specs.declared.refusal.Refusal.TheVariants.{BadAmount, BadCurrency}
use Rattle.domain.specs.Makers.{as_currency}
use Rattle.domain.specs.declared.digits.Digits.{Digits}
use Rattle.domain.specs.declared.digits.Digits.TheVariants.{Zero, Two, Three}

abbrev pub digit_count : Digits → ℕ
digit_count Zero = 0
digit_count Two = 2
digit_count Three = 3

-- an account has 0, 2 or 3 decimal digits
abbrev pub as_digits : ℕ → Option Digits
as_digits n = cond (n == 0) (Some Zero) (cond (n == 2) (Some Two) (cond (n == 3) (Some Three) None))

-- what follows a value, unless it is refused
abbrev pub and_then : {X Y E : Type 0} → Result X E → (X → Result Y E) → Result Y E
and_then (Ok x) next = next x
and_then (Err why) next = Err why

-- digits are looked at before the currency
abbrev pub account_of : List ℕ → ℕ → Result Account Refusal
account_of code digits =
    and_then (ok_or (as_digits digits) BadAmount) (λ d.
    and_then (ok_or (as_currency code) BadCurrency) (λ own.
    Ok (record { currency = own; digits = d })))
