-- The month in which a day lies.
use Rattle.std.proofs.Common.{◌≡◌, ℕ, zero, suc, ◌+◌, ◌<◌, ◌≤◌, leb, sym, ap, ◌∙◌, inl, inr, arith, List, length, get_or, true, false, lit<}
use Rattle.std.proofs.lemmas.Bool.Decides.{nat_tests}
use Rattle.std.proofs.lemmas.Bool.{cases_Bool, cases_lt, cond-true, cond-false, le-leb, lt-leb, leb-true, leb-false}
use Rattle.std.specs.List.Sorted.{IsPartitionedBy, IsPartitionPoint}
use Rattle.std.proofs.lemmas.List.{get_or_default}
use Rattle.calendar.specs.Calendar.{first_of, length_of, month_by, month_of}
use Rattle.calendar.proofs.Steps.{first_suc, first_end, first_grows, first_most}

-- the day n lies in the month k
pub record Lies (n k : ℕ) : Type 0 where
  pub within : k < 1200
  pub from : first_of k ≤ n
  pub before : n < first_of k + length_of k

by_within : (m n : ℕ) → month_by m n ≤ m
by_within zero n = omega arith
by_within (suc m) n = grind (arith, nat_tests, by_within m n)

by_from : (m n : ℕ) → first_of (month_by m n) ≤ n
by_from zero n = omega (arith, first_most 0)
by_from (suc m) n = let h = by_from m n in elim (cases_Bool (leb (first_of (suc m)) n)) [ inl t ↦ rw t (leb-true _ _ t) | inr f ↦ rw f h ]

by_before : (m n : ℕ) → n < first_of (suc m) → n < first_of (suc (month_by m n))
by_before zero n h = h
by_before (suc m) n h = elim (cases_Bool (leb (first_of (suc m)) n)) [ inl t ↦ rw t h | inr f ↦ rw f (by_before m n (leb-false _ _ f)) ]

-- each day lies in its month
pub lies : (n : ℕ) → n ≤ 36524 → Lies n (month_of n)
unfolding month_of
lies n h = record {
  within = omega (arith, by_within 1199 n);
  from = by_from 1199 n;
  before = omega (arith, first_suc (month_by 1199 n), by_before 1199 n (omega (arith, first_end)));
}

month_up : (m k n : ℕ) → k ≤ m → first_of k ≤ n → n < first_of k + length_of k → month_by m n ≡ k
month_up zero k n h low high = omega arith
month_up (suc m) k n h low high = elim (cases_lt k (suc m)) [
  | inl l ↦
      cond-false (leb (first_of (suc m)) n) (suc m) (month_by m n) (lt-leb _ _ (omega (arith, first_suc k, first_grows (suc k) (suc m) (omega arith))))
      ∙ month_up m k n (omega arith) low high
  | inr g ↦
      let e : suc m ≡ k = omega arith in
      cond-true (leb (first_of (suc m)) n) (suc m) (month_by m n) (le-leb _ _ (omega (arith, ap first_of e))) ∙ e
]

-- and in no other
pub month_is : (n k : ℕ) → Lies n k → k ≡ month_of n
unfolding month_of
month_is n k h = sym (month_up 1199 k n (omega (arith, h.within)) h.from h.before)

-- a table of the months' first days
pub record Firsts (xs : List ℕ) : Type 0 where
  pub months : length xs ≡ 1200
  pub each : (k : ℕ) → k < 1200 → get_or xs k 0 ≡ first_of k

-- it parts at a day, since first days grow
pub parted : (n : ℕ) (xs : List ℕ) → Firsts xs → IsPartitionedBy (λ d. leb d n) xs
parted n xs t i j d h w e =
    let a = get_or_default xs i d 0 (omega (arith, h, w)) in
    let b = get_or_default xs j d 0 w in
    le-leb _ _ (omega (arith, a, b, t.each i (omega (arith, t.months, h, w)), t.each j (omega (arith, t.months, w)), first_grows i j h, leb-true _ _ e))

-- a month begins on each day or before it, and the last such month is the day's
pub some_begun : (n i : ℕ) (xs : List ℕ) → Firsts xs → IsPartitionPoint (λ d. leb d n ≡ true) (λ d. leb d n ≡ false) xs i → 1 ≤ i
some_begun n zero xs t p = absurd (omega (arith, t.each 0 (lit< tt), first_most 0, leb-false _ _ (p.1 0 0 (omega arith) (omega (arith, t.months)))))
some_begun n (suc i) xs t p = omega arith

pub last_begun : (n k i : ℕ) (xs : List ℕ) → n ≤ 36524 → Firsts xs → i ≤ length xs → IsPartitionPoint (λ d. leb d n ≡ true) (λ d. leb d n ≡ false) xs i → i ≡ suc k → Lies n k
last_begun n k i xs h t w p e =
    record {
      within = omega (arith, t.months);
      from = omega (arith, t.each k (omega (arith, t.months)), leb-true _ _ (p.0 k 0 (omega arith) (omega arith)));
      before = elim (cases_lt i 1200) [
        | inl l ↦ omega (arith, t.each i l, first_suc k, ap first_of e, leb-false _ _ (p.1 i 0 (omega arith) (omega (arith, t.months))))
        | inr g ↦ omega (arith, first_suc k, first_end, ap first_of (let v : 1200 ≡ suc k = omega (arith, t.months) in v))
      ];
    }
