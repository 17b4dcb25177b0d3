-- Raw numbers and bytes become values only where they are ones: the value, or none.
use Rattle.std.specs.Prelude.{◌≡◌, ℕ, Bool, true, false, ◌&&◌, T, List, ℤ, pos, neg_ℤ, Some, None, Option, int_le, nat_le, refl}
use Rattle.std.proofs.Common.{leb→le}
use Rattle.domain.specs.declared.amount.Amount.{Amount}
use Rattle.domain.specs.declared.currency.Currency.{Currency}
use Rattle.domain.specs.declared.day.Day.{Day}
use Rattle.domain.specs.declared.key.Key.{Key}
use Rattle.domain.specs.Limits.{InAmount}
use Rattle.domain.specs.Currencies.{is_currency}
use Rattle.domain.specs.References.{is_reference, high_of, low_of}

-- what is made where a test passes, and none where it fails
abbrev pub provided : {X : Type 0} (test : Bool) → (T test → X) → Option X
provided true make = Some (make tt)
provided false make = None

-- a test that passes, as an equation, and the parts of a test of two
pub passes : (b : Bool) → T b → b ≡ true
passes true t = refl
passes false t = absurd t

pub both_pass : (a b : Bool) → T (a && b) → T a × T b
both_pass true true t = (tt, tt)
both_pass true false t = absurd t
both_pass false b t = absurd t

-- days run from 0 to 36,524
abbrev pub is_day : ℕ → Bool
is_day n = nat_le n 36524

unfoldable pub as_day : ℕ → Option Day
as_day n = provided (is_day n) (λ t. record { number = n; within = leb→le n 36524 t })

-- amounts run from -99,999,999,999,999 to 99,999,999,999,999
abbrev pub is_amount : ℤ → Bool
is_amount z = int_le (neg_ℤ (pos 99999999999999)) z && int_le z (pos 99999999999999)

pub in_amount : (z : ℤ) → T (is_amount z) → InAmount z
in_amount z t =
    let p = both_pass (int_le (neg_ℤ (pos 99999999999999)) z) (int_le z (pos 99999999999999)) t in
    (record { le = p.0 }, record { le = p.1 })

unfoldable pub as_amount : ℤ → Option Amount
as_amount z = provided (is_amount z) (λ t. record { minor = z; within = in_amount z t })

-- a currency is three capitals
unfoldable pub as_currency : List ℕ → Option Currency
as_currency code = provided (is_currency code) (λ t. record { code = code; capitals = passes (is_currency code) t })

-- a key is that of a reference
unfoldable pub as_key : List ℕ → Option Key
as_key r = provided (is_reference r) (λ t. record { high = high_of r; low = low_of r; real = ∣ (r, passes (is_reference r) t, refl, refl) ∣₁ })
