-- Values that agree in their numbers are equal, since a fact beside a number has one proof; and what a maker makes.
use Rattle.std.proofs.Common.{◌≡◌, ℕ, ◌≤◌, Bool, true, false, ◌&&◌, T, List, ℤ, Some, None, Ok, Err, Option, sym, refl, ap, ◌∙◌, subst, le→leb, leb→le}
use mathlib.Core.Logic.{∥∥₁_prop}
use mathlib.Core.Bool.{Bool-set}
use native.Mathlib.Bridge.{le_prop}
use Rattle.std.proofs.Props.{props}
use Rattle.std.specs.Option.{ok_or}
use Rattle.domain.specs.declared.refusal.Refusal.{Refusal}
use Rattle.domain.specs.Limits.{InAmount}
use Rattle.std.proofs.lemmas.Bool.{both_ways, false≢true}
use Rattle.domain.specs.Currencies.{is_currency}
use Rattle.domain.specs.References.{IsKey, is_reference, high_of, low_of}
use Rattle.domain.specs.Makers.{provided, passes, as_day, is_day, as_amount, is_amount, in_amount, as_currency, as_key}
use Rattle.domain.specs.declared.currency.Currency.{Currency}
use Rattle.domain.specs.declared.amount.Amount.{Amount}
use Rattle.domain.specs.declared.day.Day.{Day}
use Rattle.domain.specs.declared.key.Key.{Key}

pub day_same : (a b : Day) → a.number ≡ b.number → a ≡ b
day_same a b e =
    let P : ℕ → Type 0 = λ n. (h : n ≤ 36524) → ◌≡◌ {A = Day} a (record { number = n; within = h }) in
    subst P e (λ h. ap (λ (w : a.number ≤ 36524). record { number = a.number; within = w }) (le_prop a.within h)) b.within

pub amount_same : (a b : Amount) → a.minor ≡ b.minor → a ≡ b
amount_same a b e =
    let P : ℤ → Type 0 = λ n. (h : InAmount n) → ◌≡◌ {A = Amount} a (record { minor = n; within = h }) in
    let one : IsProp (InAmount a.minor) = hlevel props in
    subst P e (λ h. ap (λ (w : InAmount a.minor). record { minor = a.minor; within = w }) (one a.within h)) b.within

pub key_same : (a b : Key) → a.high ≡ b.high → a.low ≡ b.low → a ≡ b
key_same a b e f =
    let P : ℕ → Type 0 = λ l. (r : IsKey a.high l) → ◌≡◌ {A = Key} a (record { high = a.high; low = l; real = r }) in
    let Q : ℕ → Type 0 = λ h. (r : IsKey h b.low) → ◌≡◌ {A = Key} a (record { high = h; low = b.low; real = r }) in
    subst Q e (subst P f (λ r. ap (λ (w : IsKey a.high a.low). record { high = a.high; low = a.low; real = w }) (∥∥₁_prop a.real r))) b.real

-- where the test passes, the value is made, and elsewhere none
pub provided_yes : {X : Type 0} (b : Bool) (f : T b → X) (t : T b) → provided b f ≡ Some (f t)
provided_yes true f t = refl
provided_yes false f t = absurd t

pub provided_no : {X : Type 0} (b : Bool) (f : T b → X) → (T b → ⊥) → provided b f ≡ None
provided_no true f n = absurd (n tt)
provided_no false f n = refl

-- and where the test says no
pub provided_none : {X : Type 0} (b : Bool) (f : T b → X) → b ≡ false → provided b f ≡ None
provided_none b f e = provided_no b f (λ t. both_ways b e (passes b t))

true_t : (b : Bool) → b ≡ true → T b
true_t true e = tt
true_t false e = absurd (false≢true e)

-- a value's number makes that value
pub as_day_lem : (d : Day) → as_day d.number ≡ Some d
unfolding as_day
as_day_lem d = provided_yes _ _ (le→leb _ _ d.within) ∙ ap Some (day_same _ _ refl)

pub no_day : (n : ℕ) → is_day n ≡ false → as_day n ≡ None
unfolding as_day
no_day n e = provided_none _ _ e

both_t : (a b : Bool) → T a → T b → T (a && b)
both_t true b p q = q
both_t false b p q = absurd p

pub as_amount_lem : (a : Amount) → as_amount a.minor ≡ Some a
unfolding as_amount
as_amount_lem a = provided_yes _ _ (both_t _ _ a.within.0.le a.within.1.le) ∙ ap Some (amount_same _ _ refl)

pub no_amount : (z : ℤ) → is_amount z ≡ false → as_amount z ≡ None
unfolding as_amount
no_amount z e = provided_none _ _ e

-- a test that passed, as the facts that a value keeps
pub amount_within : (z : ℤ) → is_amount z ≡ true → InAmount z
amount_within z e = in_amount z (true_t (is_amount z) e)

pub day_within : (n : ℕ) → is_day n ≡ true → n ≤ 36524
day_within n e = leb→le n 36524 (true_t (is_day n) e)

pub no_currency : (code : List ℕ) → is_currency code ≡ false → as_currency code ≡ None
unfolding as_currency
no_currency code e = provided_none _ _ e

pub as_currency_lem : (c : Currency) (code : List ℕ) → c.code ≡ code → as_currency code ≡ Some c
unfolding as_currency
as_currency_lem c code e =
    let P : List ℕ → Type 0 = λ x. (h : is_currency x ≡ true) → ◌≡◌ {A = Currency} (record { code = x; capitals = h }) c in
    let all : P c.code = λ h. ap (λ (w : is_currency c.code ≡ true). record { code = c.code; capitals = w }) (Bool-set _ _ h c.capitals) in
    provided_yes _ _ (true_t (is_currency code) (ap is_currency (sym e) ∙ c.capitals)) ∙ ap Some (subst P e all _)

pub no_key : (r : List ℕ) → is_reference r ≡ false → as_key r ≡ None
unfolding as_key
no_key r e = provided_none _ _ e

pub as_key_lem : (k : Key) (r : List ℕ) → is_reference r ≡ true → k.high ≡ high_of r → k.low ≡ low_of r → as_key r ≡ Some k
unfolding as_key
as_key_lem k r t e f = provided_yes _ _ (true_t (is_reference r) t) ∙ ap Some (key_same _ _ (sym e) (sym f))

-- what a maker answers where it makes a value, and where it makes none
pub made : {X : Type 0} (o : Option X) (x : X) (why : Refusal) → o ≡ Some x → Ok x ≡ ok_or o why
made o x why e = ap (λ p. ok_or p why) (sym e)

pub unmade : {X : Type 0} (o : Option X) (why : Refusal) → o ≡ None → Err why ≡ ok_or o why
unmade o why e = ap (λ p. ok_or p why) (sym e)
