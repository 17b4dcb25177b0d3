-- What keys say of references.
use Rattle.std.specs.Prelude.{◌≡◌, ℕ, true, cond, ◌⊎◌, ◌↔◌, List, [], Some}
use Rattle.domain.specs.declared.key.Key.{Key}
use Rattle.domain.specs.Keys.{printed_key}
use Rattle.domain.specs.Makers.{as_key}
use Rattle.domain.specs.References.{is_reference, is_blank, high_of, low_of}

pub record KeysStand : Type 0 where
  -- two references share a key exactly when they are equal or both blank
  pub share : (r s : List ℕ) → is_reference r ≡ true → is_reference s ≡ true →
      ((high_of r ≡ high_of s) × (low_of r ≡ low_of s)) ↔ ((r ≡ s) ⊎ ((is_blank r ≡ true) × (is_blank s ≡ true)))
  -- every key is that of a reference
  pub every : (k : Key) → ∥ ((r : List ℕ) × (as_key r ≡ Some k)) ∥₁
  -- what is printed for a key is its reference, and nothing for a blank one
  pub printed : (r : List ℕ) (k : Key) → as_key r ≡ Some k → printed_key k ≡ cond (is_blank r) [] r
