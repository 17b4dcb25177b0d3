use Rattle.std.proofs.Common.{[], refl}
use Rattle.domain.proofs.Same.{key_same}
use Rattle.domain.proofs.blank.no_key.Goals as goal

pub invariant_of-result : goal.invariant_of-result
invariant_of-result c = record { real = ∣ ([], refl, refl, refl) ∣₁ }

pub returns : goal.returns
returns c = key_same _ _ refl refl
