-- The lines of a text stand inside it.
use Rattle.std.proofs.Common.{◌≡◌, ℕ, suc, ◌+◌, ◌-◌, ◌<◌, ◌≤◌, Bool, true, false, List, [], ◌∷◌, length, drop, inl, inr, zero, subst, sym, arith}
use Rattle.std.proofs.lemmas.Bool.{cases_lt}
use Rattle.std.proofs.lemmas.List.{length-drop, drop_all}
use Rattle.text.specs.Lines.{split, numbered, lines_from}
use Rattle.text.proofs.Scanned.{behind, behind_more, whole, Reaches, reaches_end}

-- each line ends, and its LF stands, before the offset n
abbrev pub AllInside : ℕ → List (ℕ × List ℕ) → Type 0
AllInside n [] = Unit {0}
AllInside n (x ∷ xs) = (x.0 + length x.1 < n) × AllInside n xs

after_at : (at : ℕ) (ls : List (List ℕ)) → at ≤ behind at ls
after_at at [] = omega arith
after_at at (l ∷ ls) = omega (arith, after_at (at + length l + 1) ls)

numbered_inside : (n at : ℕ) (ls : List (List ℕ)) → behind at ls ≤ n → AllInside n (numbered at ls)
numbered_inside n at [] h = tt
numbered_inside n at (l ∷ ls) h = (omega (arith, after_at (at + length l + 1) ls), numbered_inside n (at + length l + 1) ls h)

behind_on : (at : ℕ) (ls : List (List ℕ)) → behind at ls ≡ at + behind 0 ls
behind_on zero ls = omega arith
behind_on (suc at) ls = omega (arith, behind_more at ls, behind_on at ls)

reached : (w : Bool) (m n : ℕ) → Reaches w m n → m ≤ n
reached true m n h = omega arith
reached false m n h = omega arith

pub lines_inside : (text : List ℕ) (at : ℕ) → AllInside (length text) (lines_from at (drop at text))
lines_inside text at =
    let bs : List ℕ = drop at text in
    elim (cases_lt at (length text)) [
      | inl a ↦
          let r : behind 0 (split bs) ≤ length bs = reached (whole bs) (behind 0 (split bs)) (length bs) (reaches_end bs) in
          let d : length bs ≡ length text - at = length-drop at text in
          numbered_inside (length text) at (split bs) (omega (arith, behind_on at (split bs)))
      | inr a ↦
          let P : List ℕ → Type 0 = λ (xs : List ℕ). AllInside (length text) (lines_from at xs) in
          subst P (sym (drop_all at text a)) tt
    ]
