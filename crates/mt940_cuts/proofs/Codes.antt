-- A line that begins with a colon has a tag only where another colon follows two digits, or two digits and a letter.
use Rattle.std.proofs.Common.{◌≡◌, ℕ, ◌∷◌, false, List, [], None, slice_index, arith}
use Rattle.std.proofs.lemmas.Grind.{common_steps}
use Rattle.mt940_cuts.specs.Slices.{starts_with}
use Rattle.mt940_cuts.specs.Tags.{tag_of, plain_tag}

third : (line : List ℕ) (a b : ℕ) → (slice_index line 3 ≡ 58 → ⊥) → starts_with line (58 ∷ a ∷ b ∷ 58 ∷ []) ≡ false
unfolding starts_with
third [] a b h = grind (arith, common_steps)
third (x ∷ []) a b h = grind (arith, common_steps)
third (x ∷ (y ∷ [])) a b h = grind (arith, common_steps)
third (x ∷ (y ∷ (z ∷ []))) a b h = grind (arith, common_steps)
third (x ∷ (y ∷ (z ∷ (w ∷ rest)))) a b h = grind (arith, common_steps)

fourth : (line : List ℕ) (a b c : ℕ) → (slice_index line 4 ≡ 58 → ⊥) → starts_with line (58 ∷ a ∷ b ∷ c ∷ 58 ∷ []) ≡ false
unfolding starts_with
fourth [] a b c h = grind (arith, common_steps)
fourth (x ∷ []) a b c h = grind (arith, common_steps)
fourth (x ∷ (y ∷ [])) a b c h = grind (arith, common_steps)
fourth (x ∷ (y ∷ (z ∷ []))) a b c h = grind (arith, common_steps)
fourth (x ∷ (y ∷ (z ∷ (w ∷ [])))) a b c h = grind (arith, common_steps)
fourth (x ∷ (y ∷ (z ∷ (w ∷ (v ∷ rest))))) a b c h = grind (arith, common_steps)

begins : (line : List ℕ) → slice_index line 0 ≡ 58 → plain_tag line ≡ None
unfolding plain_tag starts_with
begins [] h = absurd (omega arith)
begins (x ∷ rest) h = grind (arith, common_steps)

pub no_code : (line : List ℕ) → slice_index line 0 ≡ 58 → (slice_index line 3 ≡ 58 → ⊥) → (slice_index line 4 ≡ 58 → ⊥) → None ≡ tag_of line
unfolding tag_of
no_code line z t f =
    rw (third line 50 48 t, third line 50 49 t, third line 50 53 t, fourth line 50 56 67 f, fourth line 54 48 70 f, fourth line 54 48 77 f, third line 54 49 t, fourth line 54 50 70 f, fourth line 54 50 77 f, third line 56 54 t, begins line z)
