-- The table of first days, once over all of it, and how first days grow.
use Rattle.std.proofs.Common.{◌≡◌, ℕ, zero, suc, ◌+◌, ◌*◌, ◌<◌, ◌≤◌, List, [], ◌∷◌, get_or, sym, refl, ap, ◌∙◌, inl, inr, le_of_suc-le-suc, not-suc-le-zero, add-zero, add-suc, suc-add, zero-add, arith}
use Rattle.std.proofs.lemmas.Bool.{cases_lt}
use Rattle.std.proofs.lemmas.Bool.Decides.{nat_tests}
use Rattle.calendar.specs.Calendar.{first_of, length_of}

-- the step rule
pub first_suc : (k : ℕ) → first_of (suc k) ≡ first_of k + length_of k
unfolding first_of
first_suc k = refl

-- a table of n months from the month k on, which begins on the day x, built by the step rule
abbrev built : ℕ → ℕ → ℕ → List ℕ
built zero k x = []
built (suc n) k x = x ∷ built n (suc k) (x + length_of k)

built_at : (n k x : ℕ) → x ≡ first_of k → (j : ℕ) → j < n → get_or (built n k x) j 0 ≡ first_of (k + j)
built_at zero k x e j h = absurd (not-suc-le-zero h)
built_at (suc n) k x e zero h = e ∙ ap first_of (sym (add-zero k))
built_at (suc n) k x e (suc j) h =
    built_at n (suc k) (x + length_of k) (ap (λ (m : ℕ). m + length_of k) e ∙ sym (first_suc k)) j (le_of_suc-le-suc h)
    ∙ ap first_of (suc-add k j ∙ sym (add-suc k j))

-- the whole table
pub table_at : (k : ℕ) → k < 1200 → get_or (built 1200 0 0) k 0 ≡ first_of k
unfolding first_of
table_at k h = built_at 1200 0 0 refl k h ∙ ap first_of (zero-add k)

-- there are 36,525 days
pub first_end : first_of 1200 ≡ 36525
unfolding first_of
first_end = refl

pub length_most : (k : ℕ) → length_of k ≤ 31
length_most k = grind (arith, nat_tests)

pub first_most : (k : ℕ) → first_of k ≤ 31 * k
unfolding first_of
first_most zero = omega arith
first_most (suc k) = omega (arith, first_most k, length_most k)

pub first_grows : (a b : ℕ) → a ≤ b → first_of a ≤ first_of b
first_grows a zero h = let e : a ≡ 0 = omega arith in omega (arith, ap first_of e)
first_grows a (suc b) h = elim (cases_lt a (suc b)) [
  | inl l ↦ omega (arith, first_grows a b (omega arith), first_suc b)
  | inr g ↦ let e : a ≡ suc b = omega arith in omega (arith, ap first_of e)
]
