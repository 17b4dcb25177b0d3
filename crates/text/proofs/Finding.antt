-- The search for a byte, and the first line of a text.
use Rattle.std.proofs.Common.{◌≡◌, ℕ, suc, ◌+◌, true, false, Bool, cond, ◌==◌, eqb, List, [], ◌∷◌, take, drop, Some, None, Option, sym, refl, ap, ◌∙◌, inl, inr, arith}
use Rattle.std.specs.List.{position, position_from}
use Rattle.std.specs.Option.{option_map}
use Rattle.std.proofs.lemmas.Iterator.Adapters.{position_from-zero}
use Rattle.std.proofs.lemmas.Bool.{cond-true, cond-false, cases_Bool}
use Rattle.text.specs.Lines.{from, split, ahead}

-- a place counted from j, counted from i more
place_on : (p : ℕ → Bool) (i j : ℕ) (bs : List ℕ) → option_map (λ k. i + k) (position_from p j bs) ≡ position_from p (i + j) bs
place_on p i j [] = refl
place_on p i j (b ∷ bs) =
    elim (p b) as (λ v. option_map (λ k. i + k) (cond v (Some j) (position_from p (j + 1) bs)) ≡ cond v (Some (i + j)) (position_from p (i + j + 1) bs)) [
      | true ↦ refl
      | false ↦ place_on p i (j + 1) bs ∙ ap (λ (n : ℕ). position_from p n bs) (omega arith)
    ]

-- the place that a search from i on finds
pub place_from : (b i : ℕ) (bs : List ℕ) → option_map (λ k. i + k) (position (λ x. x == b) bs) ≡ from b i bs
place_from b i bs =
    ap (option_map (λ k. i + k)) (position_from-zero (λ x. x == b) bs)
    ∙ place_on (λ x. x == b) i 0 bs
    ∙ ap (λ (n : ℕ). position_from (λ x. x == b) n bs) (omega arith)

-- the first line of a text whose first LF stands at n
pub record First (i n : ℕ) (bs : List ℕ) : Type 0 where
  pub k : ℕ
  pub is : n ≡ i + k
  pub line : split bs ≡ take k bs ∷ split (drop (suc k) bs)

pub first_line : (i n : ℕ) (bs : List ℕ) → from 10 i bs ≡ Some n → First i n bs
first_line i n [] e = let z : ◌≡◌ {A = ℕ} 0 1 = cc in absurd (omega arith)
first_line i n (b ∷ bs) e = elim (cases_Bool (eqb b 10)) [
  | inl t ↦
      let s : ◌≡◌ {A = Option ℕ} (Some i) (Some n) = sym (cond-true (eqb b 10) (Some i) (from 10 (i + 1) bs) t) ∙ e in
      let m : n ≡ i = cc in
      record { k = 0; is = omega arith; line = cond-true (eqb b 10) ([] ∷ split bs) (ahead b (split bs)) t }
  | inr f ↦
      let g : First (i + 1) n bs = first_line (i + 1) n bs (sym (cond-false (eqb b 10) (Some i) (from 10 (i + 1) bs) f) ∙ e) in
      record { k = suc g.k; is = omega (arith, g.is); line = cond-false (eqb b 10) ([] ∷ split bs) (ahead b (split bs)) f ∙ ap (ahead b) g.line }
]

pub no_line : (i : ℕ) (bs : List ℕ) → from 10 i bs ≡ None → split bs ≡ []
no_line i [] e = refl
no_line i (b ∷ bs) e = elim (cases_Bool (eqb b 10)) [
  | inl t ↦
      let s : ◌≡◌ {A = Option ℕ} (Some i) None = sym (cond-true (eqb b 10) (Some i) (from 10 (i + 1) bs) t) ∙ e in
      let z : ◌≡◌ {A = ℕ} 0 1 = cc in absurd (omega arith)
  | inr f ↦
      cond-false (eqb b 10) ([] ∷ split bs) (ahead b (split bs)) f ∙ ap (ahead b) (no_line (i + 1) bs (sym (cond-false (eqb b 10) (Some i) (from 10 (i + 1) bs) f) ∙ e))
]
