-- The search for two slashes.
use Rattle.std.proofs.Common.{◌≡◌, ℕ, zero, suc, ◌+◌, ◌<◌, Bool, true, false, ◌&&◌, eqb, List, [], ◌∷◌, length, Some, None, Option, MatchOption, codes, slice_index, refl, sym, ap, ◌∙◌, arith}
use Rattle.std.proofs.lemmas.Bool.{cond-true, cond-false}
use Rattle.std.proofs.lemmas.Grind.{common_steps}
use Rattle.mt940_cuts.specs.Cuts.{slashes_from}
use Rattle.mt940_cuts.specs.Slices.{starts_with}

-- two slashes in a row stand at k
abbrev pub slashes_at : List ℕ → ℕ → Bool
slashes_at bytes k = eqb (slice_index bytes k) 47 && eqb (slice_index bytes (k + 1)) 47

-- where the first two stand
abbrev pub FirstSlashes : List ℕ → Option ℕ → Type 0
FirstSlashes bytes found =
    MatchOption found ((k : ℕ) → k + 1 < length bytes → slashes_at bytes k ≡ false)
    (λ i. (i + 1 < length bytes) × (slashes_at bytes i ≡ true) × ((k : ℕ) → k < i → slashes_at bytes k ≡ false))

at_front : (b : ℕ) (bs : List ℕ) → starts_with (b ∷ bs) (codes "//") ≡ slashes_at (b ∷ bs) 0
unfolding starts_with
at_front b [] = grind (arith, common_steps)
at_front b (c ∷ cs) = grind (arith, common_steps)

later : (b : ℕ) (bs : List ℕ) (k : ℕ) → slashes_at (b ∷ bs) (suc k) ≡ slashes_at bs k
later b bs k = grind (arith, common_steps)

none_found : (bs : List ℕ) (i : ℕ) → ((k : ℕ) → k + 1 < length bs → slashes_at bs k ≡ false) → slashes_from i bs ≡ None
none_found [] i h = refl
none_found (b ∷ []) i h = cond-false (starts_with (b ∷ []) (codes "//")) (Some i) None (at_front b [] ∙ grind (arith, common_steps))
none_found (b ∷ (c ∷ cs)) i h =
    cond-false (starts_with (b ∷ (c ∷ cs)) (codes "//")) (Some i) (slashes_from (i + 1) (c ∷ cs)) (at_front b (c ∷ cs) ∙ h 0 (omega arith))
    ∙ none_found (c ∷ cs) (i + 1) (λ k lt. sym (later b (c ∷ cs) k) ∙ h (suc k) (omega arith))

first_found : (bs : List ℕ) (i n m : ℕ) → m ≡ i + n → n + 1 < length bs → slashes_at bs n ≡ true → ((k : ℕ) → k < n → slashes_at bs k ≡ false) → slashes_from i bs ≡ Some m
first_found [] i n m e lt t h = absurd (omega arith)
first_found (b ∷ bs) i zero m e lt t h =
    cond-true (starts_with (b ∷ bs) (codes "//")) (Some i) (slashes_from (i + 1) bs) (at_front b bs ∙ t) ∙ let same : i ≡ m = omega arith in ap Some same
first_found (b ∷ bs) i (suc n) m e lt t h =
    cond-false (starts_with (b ∷ bs) (codes "//")) (Some i) (slashes_from (i + 1) bs) (at_front b bs ∙ h 0 (omega arith))
    ∙ first_found bs (i + 1) n m (omega arith) (omega arith) (sym (later b bs n) ∙ t) (λ k l. sym (later b bs k) ∙ h (suc k) (omega arith))

pub slashes_are : (bytes : List ℕ) (found : Option ℕ) → FirstSlashes bytes found → found ≡ slashes_from 0 bytes
slashes_are bytes None h = sym (none_found bytes 0 h)
slashes_are bytes (Some i) h = sym (first_found bytes 0 i i (omega arith) h.0 h.1 h.2)
