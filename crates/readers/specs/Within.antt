-- Lines that stand in a text of so many bytes.
use Rattle.std.specs.Prelude.{ℕ, ◌+◌, ◌<◌, ◌≤◌, List, [], ◌∷◌, length}
use Rattle.std.specs.List.{AllByRecursion, AllByRecursion-prop}
use Rattle.std.proofs.Math.Bridge.{le_prop}
use mathlib.Core.HLevel.{×_prop, Unit-prop}

-- lines in their order, each of which ends before the offset n
abbrev pub Within : ℕ → List (ℕ × List ℕ) → Type 0
Within n [] = Unit {0}
Within n (l ∷ ls) = (l.0 + length l.1 < n) × (AllByRecursion (λ m. l.0 ≤ m.0) ls × Within n ls)

pub Within-prop : (n : ℕ) (ls : List (ℕ × List ℕ)) → IsProp (Within n ls)
Within-prop n [] = Unit-prop
Within-prop n (l ∷ ls) = ×_prop le_prop (×_prop (AllByRecursion-prop _ (λ m. le_prop) ls) (Within-prop n ls))
