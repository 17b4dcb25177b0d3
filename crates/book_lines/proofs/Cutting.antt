-- The first field of a line, and the fields behind its comma.
use Rattle.std.proofs.Common.{◌≡◌, ℕ, ◌<◌, ◌==◌, Bool, ltb, List, [], ◌∷◌, length, Some, None, Option, sym, ap, ◌∙◌, inl, inr, arith}
use Rattle.std.specs.List.{before_first, after_first, position_or_len}
use Rattle.std.proofs.lemmas.List.Splits.{slice_split_first, slice_split_none}
use Rattle.std.proofs.lemmas.List.Sums.{fails_before_first}
use Rattle.std.proofs.lemmas.Option.{none-some, some_pair_parts}
use Rattle.std.proofs.lemmas.Bool.{cases_Bool, ltb-true, ltb-false}
use Rattle.fields.specs.Splits.{split_once}
use Rattle.book_lines.specs.Fields.{fields_of}

abbrev is_comma : ℕ → Bool
is_comma b = b == 44

abbrev comma_at : List ℕ → ℕ
comma_at bs = position_or_len is_comma bs

pub first_field : (bs front back : List ℕ) → ◌≡◌ {A = Option (List ℕ × List ℕ)} (Some (front, back)) (split_once 44 bs) → fields_of bs ≡ front ∷ fields_of back
first_field bs front back e = elim (cases_Bool (ltb (comma_at bs) (length bs))) [
  | inl t ↦
      let p = some_pair_parts front (before_first is_comma bs) back (after_first is_comma bs) (rw t at e) in
      slice_split_first is_comma bs 0 (ltb-true _ _ t) ∙ ap (λ (l : List ℕ). l ∷ fields_of (after_first is_comma bs)) (sym p.0) ∙ ap (λ (l : List ℕ). front ∷ fields_of l) (sym p.1)
  | inr f ↦ absurd (none-some (front, back) (sym (rw f at e)))
]

pub last_field : (bs : List ℕ) → ◌≡◌ {A = Option (List ℕ × List ℕ)} None (split_once 44 bs) → fields_of bs ≡ bs ∷ []
last_field bs e = elim (cases_Bool (ltb (comma_at bs) (length bs))) [
  | inl t ↦ absurd (none-some (before_first is_comma bs, after_first is_comma bs) (rw t at e))
  | inr f ↦ slice_split_none is_comma bs (λ k d h. fails_before_first is_comma bs k d (omega (arith, ltb-false _ _ f, h)))
]

pub fewer_fields : (bs front back : List ℕ) → ◌≡◌ {A = Option (List ℕ × List ℕ)} (Some (front, back)) (split_once 44 bs) → length (fields_of back) < length (fields_of bs)
fewer_fields bs front back e = omega (arith, ap length (first_field bs front back e))
