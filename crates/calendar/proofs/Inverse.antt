-- A day's date names that day, and a date that names a day is that day's date.
use Rattle.std.proofs.Common.{◌≡◌, ℕ, ◌+◌, ◌-◌, ◌/◌, ◌%◌, ◌<◌, ◌≤◌, Bool, true, false, T, eqb, leb, List, [], ◌∷◌, ◌++◌, length, get_or, take, Some, None, sym, refl, ap, ◌∙◌, inl, inr, arith, leb→le}
use Rattle.std.proofs.lemmas.Bool.{and_parts, eqb-true, cond-true, cases_Bool, eq-eqb}
use Rattle.std.proofs.lemmas.Bool.Decides.{nat_tests}
use Rattle.std.proofs.lemmas.Option.{none-some, cond_some, option_and_then_some}
use Rattle.domain.specs.declared.day.Day.{Day}
use Rattle.domain.specs.Makers.{as_day, provided}
use Rattle.domain.proofs.Same.{as_day_lem}
use Rattle.fields.specs.Runs.{all_digits}
use Rattle.calendar.specs.Calendar.{first_of, length_of, days_in, year_of, is_day, month_in, day_of, month_of}
use Rattle.calendar.specs.Dates.{two, two_at, is_date, numbered, day_in, entry_day_of, date_by, date_text}
use Rattle.calendar.proofs.Steps.{length_most}
use Rattle.calendar.proofs.Months.{Lies, lies, month_is}
use Rattle.calendar.proofs.Twos.{digit_in, digits_two, two_worth, two_back, six}

-- what a date that names a day says
pub record Named (yy mm dd : ℕ) : Type 0 where
  pub year : yy ≤ 99
  pub low : 1 ≤ mm
  pub high : mm ≤ 12
  pub first : 1 ≤ dd
  pub last : dd ≤ days_in (year_of yy) mm

pub named : (yy mm dd : ℕ) → is_day yy mm dd ≡ true → Named yy mm dd
named yy mm dd e = record { year = grind (arith, nat_tests); low = grind (arith, nat_tests); high = grind (arith, nat_tests); first = grind (arith, nat_tests); last = grind (arith, nat_tests) }

is_named : (yy mm dd : ℕ) → Named yy mm dd → is_day yy mm dd ≡ true
is_named yy mm dd h = grind (arith, nat_tests)

-- two-digit years and years
year_at : (q : ℕ) → q < 100 → year_of ((1980 + q) % 100) ≡ 1980 + q
year_at q h = grind (arith, nat_tests)

year_least : (yy : ℕ) → 1980 ≤ year_of yy
year_least yy = grind (arith, nat_tests)

year_most : (yy : ℕ) → yy ≤ 99 → year_of yy ≤ 2079
year_most yy h = grind (arith, nat_tests)

year_digits : (yy : ℕ) → yy ≤ 99 → year_of yy % 100 ≡ yy
year_digits yy h = grind (arith, nat_tests)

-- the day n of the month k, as its date names it
there : (n k : ℕ) → Lies n k → day_of ((1980 + k / 12) % 100) (k % 12 + 1) (n - first_of k + 1) ≡ Some n
there n k h =
    let y = year_at (k / 12) (omega (arith, h.within)) in
    let yy = (1980 + k / 12) % 100 in
    let mm = k % 12 + 1 in
    let dd = n - first_of k + 1 in
    let m : month_in yy mm ≡ k = omega (arith, y) in
    let t = is_named yy mm dd (record {
      year = omega arith;
      low = omega arith;
      high = omega arith;
      first = omega arith;
      last = omega (arith, h.from, h.before, ap (λ (v : ℕ). days_in v mm) y);
    }) in
    cond-true (is_day yy mm dd) (Some (first_of (month_in yy mm) + (dd - 1))) None t ∙ ap Some (omega (arith, ap first_of m, h.from))

-- its date is six digits
pub date_formed : (n k : ℕ) → Lies n k → is_date (date_by k n) ≡ true
date_formed n k h =
    digits_two ((1980 + k / 12) % 100) (two (k % 12 + 1) ++ two (n - first_of k + 1)) (omega arith)
    (digits_two (k % 12 + 1) (two (n - first_of k + 1)) (omega arith) (digits_two (n - first_of k + 1) [] (omega (arith, h.before, h.from, length_most k)) refl))

by_back : (k : ℕ) (d : Day) → Lies d.number k → day_in (date_by k d.number) ≡ Some d
unfolding day_in
by_back k d h =
    let n = d.number in
    cond-true (is_date (date_by k n)) (numbered (day_of (two_at (date_by k n) 0) (two_at (date_by k n) 2) (two_at (date_by k n) 4))) None (date_formed n k h)
    ∙ ap (λ (y : ℕ). numbered (day_of y (two_at (date_by k n) 2) (two_at (date_by k n) 4))) (two_worth ((1980 + k / 12) % 100))
    ∙ ap (λ (m : ℕ). numbered (day_of ((1980 + k / 12) % 100) m (two_at (date_by k n) 4))) (two_worth (k % 12 + 1))
    ∙ ap (λ (c : ℕ). numbered (day_of ((1980 + k / 12) % 100) (k % 12 + 1) c)) (two_worth (n - first_of k + 1))
    ∙ ap numbered (there n k h) ∙ as_day_lem d

pub back : (d : Day) → day_in (date_text d.number) ≡ Some d
unfolding date_text
back d = by_back (month_of d.number) d (lies d.number d.within)

pub date_length : (n : ℕ) → length (date_text n) ≡ 6
unfolding date_text
date_length n = refl

made_number : (b : Bool) (f : T b → Day) (n : ℕ) (d : Day) → ((t : T b) → (f t).number ≡ n) → provided b f ≡ Some d → d.number ≡ n
made_number true f n d h e = let p : f tt ≡ d = cc in ap (λ x. x.number) (sym p) ∙ h tt
made_number false f n d h e = absurd (let z : ◌≡◌ {A = ℕ} 0 1 = cc in omega arith)

day_number_lem : (n : ℕ) (d : Day) → as_day n ≡ Some d → d.number ≡ n
unfolding as_day
day_number_lem n d e = made_number (leb n 36524) (λ t. record { number = n; within = leb→le n 36524 t }) n d (λ t. refl) e

-- the day that a date names lies in the month that it names
lies_named : (yy mm dd : ℕ) → Named yy mm dd → Lies (first_of (month_in yy mm) + (dd - 1)) (month_in yy mm)
lies_named yy mm dd h =
    let l = year_least yy in
    let u = year_most yy h.year in
    let k = month_in yy mm in
    let q : 1980 + k / 12 ≡ year_of yy = omega (arith, h.low, h.high) in
    let r : k % 12 + 1 ≡ mm = omega (arith, h.low, h.high) in
    let e : length_of k ≡ days_in (year_of yy) mm = ap (λ (v : ℕ). days_in v (k % 12 + 1)) q ∙ ap (days_in (year_of yy)) r in
    record { within = omega (arith, h.low, h.high); from = omega arith; before = omega (arith, e, h.first, h.last) }

date_named : (yy mm dd : ℕ) → Named yy mm dd → date_text (first_of (month_in yy mm) + (dd - 1)) ≡ two yy ++ (two mm ++ two dd)
unfolding date_text
date_named yy mm dd h =
    let l = year_least yy in
    let u = year_most yy h.year in
    let k = month_in yy mm in
    let n = first_of k + (dd - 1) in
    let q : 1980 + k / 12 ≡ year_of yy = omega (arith, h.low, h.high) in
    let y : (1980 + k / 12) % 100 ≡ yy = ap (λ (v : ℕ). v % 100) q ∙ year_digits yy h.year in
    let r : k % 12 + 1 ≡ mm = omega (arith, h.low, h.high) in
    let c : n - first_of k + 1 ≡ dd = omega (arith, h.first) in
    ap (λ (m : ℕ). date_by m n) (sym (month_is n k (lies_named yy mm dd h)))
    ∙ ap (λ (v : ℕ). two v ++ (two (k % 12 + 1) ++ two (n - first_of k + 1))) y
    ∙ ap (λ (v : ℕ). two yy ++ (two v ++ two (n - first_of k + 1))) r
    ∙ ap (λ (v : ℕ). two yy ++ (two mm ++ two v)) c

from_named : (yy mm dd : ℕ) (d : Day) → numbered (day_of yy mm dd) ≡ Some d → date_text d.number ≡ two yy ++ (two mm ++ two dd)
from_named yy mm dd d e =
    let n = first_of (month_in yy mm) + (dd - 1) in
    option_and_then_some as_day (day_of yy mm dd) d e (λ m g h.
    let c = cond_some (is_day yy mm dd) n m g in
    ap date_text (day_number_lem m d h ∙ sym c.1) ∙ date_named yy mm dd (named yy mm dd c.0))

from_date : (date : List ℕ) (d : Day) → is_date date ≡ true → numbered (day_of (two_at date 0) (two_at date 2) (two_at date 4)) ≡ Some d → date_text d.number ≡ date
from_date date d t e =
    let p = and_parts (eqb (length date) 6) (all_digits date) t in
    let l : length date ≡ 6 = eqb-true _ _ p.0 in
    let g = λ (i : ℕ) (h : i < length date). digit_in date i h p.1 in
    from_named (two_at date 0) (two_at date 2) (two_at date 4) d e
    ∙ two_back (get_or date 0 0) (get_or date 1 0) (two (two_at date 2) ++ two (two_at date 4)) (g 0 (omega arith)) (g 1 (omega arith))
    ∙ ap (λ (bs : List ℕ). get_or date 0 0 ∷ get_or date 1 0 ∷ bs) (two_back (get_or date 2 0) (get_or date 3 0) (two (two_at date 4)) (g 2 (omega arith)) (g 3 (omega arith)))
    ∙ ap (λ (bs : List ℕ). get_or date 0 0 ∷ get_or date 1 0 ∷ get_or date 2 0 ∷ get_or date 3 0 ∷ bs) (two_back (get_or date 4 0) (get_or date 5 0) [] (g 4 (omega arith)) (g 5 (omega arith)))
    ∙ six date l

pub forth : (date : List ℕ) (d : Day) → day_in date ≡ Some d → date_text d.number ≡ date
unfolding day_in
forth date d e = elim (cases_Bool (is_date date)) [
  | inl t ↦ from_date date d t (rw t at e)
  | inr f ↦ absurd (none-some d (rw f at e))
]

-- MMDD in the year of a value date
pub entry_some : (v m : List ℕ) → length m ≡ 4 → entry_day_of v m ≡ day_in (take 2 v ++ m)
unfolding entry_day_of
entry_some v m e = cond-true (eqb (length m) 4) (day_in (take 2 v ++ m)) None (eq-eqb _ _ e)
