-- Numbers of so many digits, and amounts in minor units, are read exactly where a text writes one.
use Rattle.std.proofs.Common.{◌≡◌, ℕ, ◌≤◌, eqb, leb, List, [], ◌∷◌, length, get_or, pos, neg_ℤ, Some, None, Option, sym, refl, ap, ◌∙◌, inl, inr, arith}
use Rattle.std.proofs.lemmas.Bool.{and_parts, and_from, cases_Bool, cond-true, le-leb, leb-true, eqb-true}
use Rattle.domain.specs.declared.amount.Amount.{Amount}
use Rattle.domain.specs.Makers.{as_amount}
use Rattle.domain.proofs.Same.{as_amount_lem}
use Rattle.fields.specs.Runs.{is_digit, all_digits, is_numeral, numeral_of, worth}
use Rattle.fields.specs.Units.{minus_of, plus_of, units_of}
use Rattle.fields.specs.Written.{Writes, ReadsNumber, Units, ReadsUnits}
use Rattle.std.proofs.lemmas.Bool.Decides.{nat_tests}
use Rattle.std.proofs.lemmas.Option.{cond_some, none-some}
use Rattle.fields.proofs.Readings.{amount_minor}
use Rattle.fields.proofs.Values.{worth_places}

-- numbers
numeral_of_lem : (k : ℕ) (text : List ℕ) (n : ℕ) → Writes k text n → numeral_of k text ≡ Some n
unfolding numeral_of
numeral_of_lem k text n w =
    let t = and_from (leb 1 (length text)) _ (le-leb _ _ w.some) (and_from (leb (length text) k) (all_digits text) (le-leb _ _ w.few) w.each) in
    cond-true (is_numeral k text) (Some (worth text)) None t ∙ ap (λ (x : ℕ). Some x) (worth_places text ∙ sym w.value)

pub writes : (k : ℕ) (text : List ℕ) (n : ℕ) → numeral_of k text ≡ Some n → Writes k text n
unfolding numeral_of
writes k text n e =
    let c = cond_some (is_numeral k text) (worth text) n e in
    let p = and_parts (leb 1 (length text)) _ c.0 in
    let q = and_parts (leb (length text) k) _ p.1 in
    record { each = q.1; some = leb-true _ _ p.0; few = leb-true _ _ q.0; value = sym c.1 ∙ worth_places text }

by_number : (k : ℕ) (text : List ℕ) (o : Option ℕ) → numeral_of k text ≡ o → ReadsNumber k text o
by_number k text (Some n) e = writes k text n e
by_number k text None e = λ n w. let s = numeral_of_lem k text n w in none-some n (sym e ∙ s)

pub reads_number : (k : ℕ) (text : List ℕ) (r : Option ℕ) → r ≡ numeral_of k text → ReadsNumber k text r
reads_number k text r e = by_number k text r (sym e)

-- amounts in minor units
no_minus : (text : List ℕ) (n : ℕ) → Writes 14 text n → get_or text 0 0 ≡ 45 → ⊥
no_minus [] n w e = omega (arith, w.some)
no_minus (b ∷ bs) n w e = let d = and_parts (is_digit b) (all_digits bs) w.each in grind (arith, nat_tests, d.0)

plus_units : (text : List ℕ) (a : Amount) (o : Option ℕ) → numeral_of 14 text ≡ o → plus_of o ≡ Some a → Units text a
plus_units text a None e f = absurd (none-some a f)
plus_units text a (Some n) e f = record { digits = text; size = n; number = writes 14 text n e; sign = inl (refl, amount_minor (pos n) a f) }

minus_units : (digits : List ℕ) (a : Amount) (o : Option ℕ) → numeral_of 14 digits ≡ o → minus_of o ≡ Some a → Units (45 ∷ digits) a
minus_units digits a None e f = absurd (none-some a f)
minus_units digits a (Some n) e f =
    let m : 1 ≤ n = grind (arith, nat_tests, f) in
    let g : as_amount (neg_ℤ (pos n)) ≡ Some a = grind (arith, nat_tests, f) in
    record { digits = digits; size = n; number = writes 14 digits n e; sign = inr (refl, m, amount_minor (neg_ℤ (pos n)) a g) }

units_of_lem : (text : List ℕ) (a : Amount) → units_of text ≡ Some a → Units text a
unfolding units_of
units_of_lem [] a e = plus_units [] a (numeral_of 14 []) refl e
units_of_lem (b ∷ bs) a e = elim (cases_Bool (eqb b 45)) [
  | inl t ↦ rw (eqb-true b 45 t) (minus_units bs a (numeral_of 14 bs) refl (rw t at e))
  | inr f ↦ plus_units (b ∷ bs) a (numeral_of 14 (b ∷ bs)) refl (rw f at e)
]

of_units : (text : List ℕ) (a : Amount) → Units text a → units_of text ≡ Some a
unfolding units_of
of_units text a u = elim u.sign [
  | inl s ↦
      let n = numeral_of_lem 14 u.digits u.size u.number in
      let m = no_minus u.digits u.size u.number in
      let k = as_amount_lem a in
      grind (arith, nat_tests)
  | inr s ↦
      let n = numeral_of_lem 14 u.digits u.size u.number in
      let k = as_amount_lem a in
      grind (arith, nat_tests)
]

by_units : (text : List ℕ) (o : Option Amount) → units_of text ≡ o → ReadsUnits text o
by_units text (Some a) e = units_of_lem text a e
by_units text None e = λ a u. none-some a (sym e ∙ of_units text a u)

pub reads_units : (text : List ℕ) (r : Option Amount) → r ≡ units_of text → ReadsUnits text r
reads_units text r e = by_units text r (sym e)
