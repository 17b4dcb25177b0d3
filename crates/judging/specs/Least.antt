-- Where several refusals fit, the one with the smallest number is answered.
use Rattle.std.specs.Prelude.{◌≡◌, ℕ, ◌≤◌, Bool, true, cond, ◌&&◌, ◌⊎◌, List, [], ◌∷◌, Some, None, Ok, Err, Option, Result, nat_lt}
use Rattle.domain.specs.declared.refusal.Refusal.{Refusal}
use Rattle.domain.specs.Refusals.{number_of}

-- a refusal fits, and none that fits has a smaller number
pub record Least (P : Refusal → Type 0) (why : Refusal) : Type 0 where
  pub fits : P why
  pub least : (other : Refusal) → P other → number_of why ≤ number_of other

-- a judgement by what fits: none where nothing does, else the least that does
abbrev pub Judged : (Refusal → Type 0) → Option Refusal → Type 0
Judged P None = (why : Refusal) → P why → ⊥
Judged P (Some why) = Least P why

-- the refusal in an answer, if it is one; and in an answer that gives back what it was given
abbrev pub refusal_of : {X : Type 0} → Result X Refusal → Option Refusal
refusal_of (Ok x) = None
refusal_of (Err why) = Some why

abbrev pub refusal_with : {X Y : Type 0} → Result X (Y × Refusal) → Option Refusal
refusal_with (Ok x) = None
refusal_with (Err e) = Some e.1

-- refused for this where a test holds, else as the rest says
abbrev pub refused_if : Bool → Refusal → Option Refusal → Option Refusal
refused_if test why rest = cond test (Some why) rest

-- tests with their refusals: the first that holds, and whether one with this refusal holds
abbrev pub first_that : List (Refusal × Bool) → Option Refusal
first_that [] = None
first_that (t ∷ ts) = refused_if t.1 t.0 (first_that ts)

abbrev pub Holds : List (Refusal × Bool) → Refusal → Type 0
Holds [] why = ⊥
Holds (t ∷ ts) why = ((why ≡ t.0) × (t.1 ≡ true)) ⊎ Holds ts why

-- the tests stand in the order of their refusals' numbers, which are over n
abbrev pub ascends : ℕ → List (Refusal × Bool) → Bool
ascends n [] = true
ascends n (t ∷ ts) = nat_lt n (number_of t.0) && ascends (number_of t.0) ts

-- no number is given twice; the first test that holds is the least refusal whose test holds; and there is only one such judgement
pub record JudgingStands : Type 0 where
  pub apart : (a b : Refusal) → number_of a ≡ number_of b → a ≡ b
  pub first : (ts : List (Refusal × Bool)) → ascends 0 ts ≡ true → Judged (Holds ts) (first_that ts)
  pub one : (ts : List (Refusal × Bool)) (d e : Option Refusal) → Judged (Holds ts) d → Judged (Holds ts) e → d ≡ e
