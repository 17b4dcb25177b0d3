-- The first test that holds, of tests in the order of their numbers, has the smallest number that fits.
use Rattle.std.proofs.Common.{◌≡◌, ℕ, ◌<◌, Bool, true, false, cond, eqb, ltb, List, [], ◌∷◌, Some, None, Option, sym, refl, ap, ◌∙◌, inl, inr, arith}
use Rattle.std.proofs.lemmas.Bool.{and_parts, both_ways, ltb-true}
use Rattle.domain.specs.declared.refusal.Refusal.{Refusal}
use Rattle.domain.specs.declared.refusal.Refusal.TheVariants.{Form, Misplaced, NoSuchDay, BadAmount, BadCurrency, BadNumber, Unbalanced, WrongCount, TooMuch, EndsEarly, BadTable, NumberRepeated, WrongOpening, DayBefore, NoRoom, PostingUnbalanced, BadList, NoSuchItem, NotOutstanding, SumsDiffer, NoSuchSet, NoSuchGroup, OutputShort}
use Rattle.domain.specs.Refusals.{number_of}
use Rattle.judging.specs.Least.{Judged, Holds, first_that, refused_if, ascends, JudgingStands}

-- a refusal by its number
by_number : ℕ → Refusal
by_number n =
    cond (eqb n 1) Form (cond (eqb n 2) Misplaced (cond (eqb n 3) NoSuchDay (cond (eqb n 4) BadAmount (cond (eqb n 5) BadCurrency (cond (eqb n 6) BadNumber
    (cond (eqb n 7) Unbalanced (cond (eqb n 9) WrongCount (cond (eqb n 11) TooMuch (cond (eqb n 12) EndsEarly (cond (eqb n 20) BadTable
    (cond (eqb n 21) NumberRepeated (cond (eqb n 22) WrongOpening (cond (eqb n 23) DayBefore (cond (eqb n 24) NoRoom (cond (eqb n 25) PostingUnbalanced
    (cond (eqb n 26) BadList (cond (eqb n 27) NoSuchItem (cond (eqb n 28) NotOutstanding (cond (eqb n 29) SumsDiffer (cond (eqb n 30) NoSuchSet
    (cond (eqb n 31) NoSuchGroup OutputShort)))))))))))))))))))))

back : (w : Refusal) → by_number (number_of w) ≡ w
unfolding by_number
back Form = refl
back Misplaced = refl
back NoSuchDay = refl
back BadAmount = refl
back BadCurrency = refl
back BadNumber = refl
back Unbalanced = refl
back WrongCount = refl
back TooMuch = refl
back EndsEarly = refl
back BadTable = refl
back NumberRepeated = refl
back WrongOpening = refl
back DayBefore = refl
back NoRoom = refl
back PostingUnbalanced = refl
back BadList = refl
back NoSuchItem = refl
back NotOutstanding = refl
back SumsDiffer = refl
back NoSuchSet = refl
back NoSuchGroup = refl
back OutputShort = refl

-- refusals with one number are one
pub apart : (a b : Refusal) → number_of a ≡ number_of b → a ≡ b
apart a b e = sym (back a) ∙ ap by_number e ∙ back b

-- what holds in tests whose numbers are over n has a number over n
over : (n : ℕ) (ts : List (Refusal × Bool)) → ascends n ts ≡ true → (why : Refusal) → Holds ts why → n < number_of why
over n [] h why w = absurd w
over n (t ∷ ts) h why w =
    let p = and_parts (ltb n (number_of t.0)) (ascends (number_of t.0) ts) h in
    let q = ltb-true n (number_of t.0) p.0 in
    elim w [ inl e ↦ omega (arith, q, ap number_of e.0) | inr v ↦ omega (arith, q, over (number_of t.0) ts p.1 why v) ]

-- one test more in front
step : (this : Refusal) (b : Bool) (ts : List (Refusal × Bool)) → ascends (number_of this) ts ≡ true → (rest : Option Refusal) → Judged (Holds ts) rest →
    Judged (Holds ((this, b) ∷ ts)) (refused_if b this rest)
step this true ts h rest j =
    record { fits = inl (refl, refl); least = λ other w. elim w [ inl e ↦ omega (arith, ap number_of e.0) | inr v ↦ omega (arith, over (number_of this) ts h other v) ] }
step this false ts h None j = λ why w. elim w [ inl e ↦ both_ways false refl e.1 | inr v ↦ j why v ]
step this false ts h (Some x) j = record { fits = inr j.fits; least = λ other w. elim w [ inl e ↦ absurd (both_ways false refl e.1) | inr v ↦ j.least other v ] }

first_from : (n : ℕ) (ts : List (Refusal × Bool)) → ascends n ts ≡ true → Judged (Holds ts) (first_that ts)
first_from n [] h = λ why w. w
first_from n (t ∷ ts) h =
    let p = and_parts (ltb n (number_of t.0)) (ascends (number_of t.0) ts) h in
    step t.0 t.1 ts p.1 (first_that ts) (first_from (number_of t.0) ts p.1)

pub first : (ts : List (Refusal × Bool)) → ascends 0 ts ≡ true → Judged (Holds ts) (first_that ts)
first ts h = first_from 0 ts h

-- what fits alike is judged alike
pub alike : (P Q : Refusal → Type 0) → ((why : Refusal) → P why → Q why) → ((why : Refusal) → Q why → P why) → (d : Option Refusal) → Judged P d → Judged Q d
alike P Q to fro None j = λ why q. j why (fro why q)
alike P Q to fro (Some x) j = record { fits = to x j.fits; least = λ other q. j.least other (fro other q) }

-- tests that say just what fits judge by it
pub judged : (P : Refusal → Type 0) (ts : List (Refusal × Bool)) → ascends 0 ts ≡ true → ((why : Refusal) → Holds ts why → P why) → ((why : Refusal) → P why → Holds ts why) →
    Judged P (first_that ts)
judged P ts h to fro = alike (Holds ts) P to fro (first_that ts) (first ts h)

-- one judgement
pub one : (P : Refusal → Type 0) (d e : Option Refusal) → Judged P d → Judged P e → d ≡ e
one P None None j k = refl
one P None (Some y) j k = absurd (j y k.fits)
one P (Some x) None j k = absurd (k x j.fits)
one P (Some x) (Some y) j k = ap (λ (w : Refusal). Some w) (apart x y (omega (arith, j.least y k.fits, k.least x j.fits)))

pub judging_stands : JudgingStands
judging_stands = record { apart = apart; first = first; one = λ ts. one (Holds ts) }
