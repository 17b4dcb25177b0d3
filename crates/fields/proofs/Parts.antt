-- Runs of digits and commas, and their parts about the first comma.
use Rattle.std.proofs.Common.{◌≡◌, ℕ, ◌+◌, ◌≤◌, true, false, cond, ◌||◌, List, [], ◌∷◌, length, sym, refl, ap, ◌∙◌, inl, inr, one-add, add-one, arith, zero-add}
use Rattle.std.proofs.lemmas.Bool.{and_parts, and_from, cases_Bool}
use Rattle.std.proofs.lemmas.List.Sums.{sum_by-cons}
use Rattle.std.specs.List.{position_or_len}
use Rattle.fields.specs.Runs.{is_digit, all_digits, in_run, all_in_run}
use Rattle.fields.specs.Commas.{is_comma, commas, before, behind, run_of}

-- a comma in front of a list, and another byte
pub commas_comma : (b : ℕ) (bs : List ℕ) → is_comma b ≡ true → commas (b ∷ bs) ≡ 1 + commas bs
commas_comma b bs t = sum_by-cons (λ x. cond (is_comma x) 1 0) b bs ∙ rw t

pub commas_other : (b : ℕ) (bs : List ℕ) → is_comma b ≡ false → commas (b ∷ bs) ≡ commas bs
commas_other b bs f = sum_by-cons (λ x. cond (is_comma x) 1 0) b bs ∙ rw f (zero-add _)

pub before_comma : (b : ℕ) (bs : List ℕ) → is_comma b ≡ true → before (b ∷ bs) ≡ []
before_comma b bs t = rw t

pub before_other : (b : ℕ) (bs : List ℕ) → is_comma b ≡ false → before (b ∷ bs) ≡ b ∷ before bs
before_other b bs f = rw (f, one-add)

pub behind_comma : (b : ℕ) (bs : List ℕ) → is_comma b ≡ true → behind (b ∷ bs) ≡ bs
behind_comma b bs t = rw t

pub behind_other : (b : ℕ) (bs : List ℕ) → is_comma b ≡ false → behind (b ∷ bs) ≡ behind bs
behind_other b bs f = rw (f, one-add, add-one, add-one)

-- where no comma is found there is none
pub commas_none : (run : List ℕ) → length run ≤ position_or_len is_comma run → commas run ≡ 0
commas_none [] h = refl
commas_none (b ∷ bs) h = elim (cases_Bool (is_comma b)) [
  | inl t ↦ absurd (let k : position_or_len is_comma (b ∷ bs) ≡ 0 = rw t in omega arith)
  | inr f ↦ let k : position_or_len is_comma (b ∷ bs) ≡ 1 + position_or_len is_comma bs = rw f in commas_other b bs f ∙ commas_none bs (omega arith)
]

a_digit : (b : ℕ) → in_run b ≡ true → is_comma b ≡ false → is_digit b ≡ true
a_digit b e f = sym (ap (λ x. x || is_digit b) f) ∙ e

pub digits_before : (run : List ℕ) → all_in_run run ≡ true → all_digits (before run) ≡ true
digits_before [] e = refl
digits_before (b ∷ bs) e =
    let p = and_parts (in_run b) (all_in_run bs) e in
    elim (cases_Bool (is_comma b)) [
      | inl t ↦ ap all_digits (before_comma b bs t)
      | inr f ↦ ap all_digits (before_other b bs f) ∙ and_from (is_digit b) (all_digits (before bs)) (a_digit b p.0 f) (digits_before bs p.1)
    ]

digits_all : (bs : List ℕ) → all_in_run bs ≡ true → commas bs ≡ 0 → all_digits bs ≡ true
digits_all [] e z = refl
digits_all (b ∷ bs) e z =
    let p = and_parts (in_run b) (all_in_run bs) e in
    elim (cases_Bool (is_comma b)) [
      | inl t ↦ absurd (omega (arith, commas_comma b bs t))
      | inr f ↦ and_from (is_digit b) (all_digits bs) (a_digit b p.0 f) (digits_all bs p.1 (sym (commas_other b bs f) ∙ z))
    ]

pub digits_behind : (run : List ℕ) → all_in_run run ≡ true → commas run ≡ 1 → all_digits (behind run) ≡ true
digits_behind [] e z = refl
digits_behind (b ∷ bs) e z =
    let p = and_parts (in_run b) (all_in_run bs) e in
    elim (cases_Bool (is_comma b)) [
      | inl t ↦ ap all_digits (behind_comma b bs t) ∙ digits_all bs p.1 (omega (arith, commas_comma b bs t))
      | inr f ↦ ap all_digits (behind_other b bs f) ∙ digits_behind bs p.1 (sym (commas_other b bs f) ∙ z)
    ]

-- the run is of digits and commas
pub all_in_run_lem : (bs : List ℕ) → all_in_run (run_of bs) ≡ true
all_in_run_lem [] = refl
all_in_run_lem (b ∷ bs) = elim (cases_Bool (in_run b)) [
  | inl t ↦ rw (t, one-add) (and_from (in_run b) (all_in_run (run_of bs)) t (all_in_run_lem bs))
  | inr f ↦ rw f
]
