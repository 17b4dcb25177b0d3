-- A row with one field more: what stands in front of the fields that are left goes on at the front.
use Rattle.std.proofs.Common.{◌≡◌, ℕ, ◌+◌, ◌<◌, ◌≤◌, List, [], ◌∷◌, ◌++◌, length, map, get_or, drop, sym, ap, ◌∙◌, arith, Bor}
use Rattle.std.proofs.lemmas.List.{append_assoc, length-append, at_drop_more}
use Rattle.report.specs.Rows.{row}

pub row_behind : (f g : List ℕ) (gs : List (List ℕ)) → row (f ++ g) gs ≡ f ++ row g gs
row_behind f g [] = append_assoc f g (10 ∷ [])
row_behind f g (h ∷ gs) = append_assoc f g (44 ∷ row h gs)

pub row_longer : (f : List ℕ) (gs : List (List ℕ)) → length f < length (row f gs)
row_longer f [] = omega (arith, length-append f (10 ∷ []))
row_longer f (g ∷ gs) = omega (arith, length-append f (44 ∷ row g gs))

pub row_room : (f g : List ℕ) (gs : List (List ℕ)) → length f + length g + 2 ≤ length (row f (g ∷ gs))
row_room f g gs = omega (arith, length-append f (44 ∷ row g gs), row_longer g gs)

-- one field more, of the fields that a loop goes over
module _ (fs : List (Bor (List ℕ))) (i : ℕ) (d : Bor (List ℕ)) (bytes whole : List ℕ) (h : i < length fs) (w : row bytes (map (λ f. f.now) (drop i fs)) ≡ whole) where
  field_next : row bytes ((get_or fs i d).now ∷ map (λ f. f.now) (drop (i + 1) fs)) ≡ whole
  field_next = sym (at_drop_more (λ l. row bytes (map (λ f. f.now) l)) fs i d h) ∙ w

  pub field_room : length bytes + length (get_or fs i d).now + 2 ≤ length whole
  field_room = omega (arith, ap length field_next, row_room bytes (get_or fs i d).now (map (λ f. f.now) (drop (i + 1) fs)))

  pub field_more : (after : List ℕ) → after ≡ (bytes ++ 44 ∷ []) ++ (get_or fs i d).now → row after (map (λ f. f.now) (drop (i + 1) fs)) ≡ whole
  field_more after e =
      let rest = map (λ f. f.now) (drop (i + 1) fs) in
      ap (λ (x : List ℕ). row x rest) e ∙ row_behind (bytes ++ 44 ∷ []) (get_or fs i d).now rest ∙ append_assoc bytes (44 ∷ []) (row (get_or fs i d).now rest) ∙ field_next
