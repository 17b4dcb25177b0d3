-- The bytes before the first zero byte are as many as stand before it.
use Rattle.std.proofs.Common.{◌≡◌, ℕ, true, false, not, cond, ◌==◌, ◌+◌, List, [], ◌∷◌, take, refl, arith}
use Rattle.std.specs.List.{prefix_len}
use Rattle.domain.specs.Keys.{until_zero}

pub before_zero : (bs : List ℕ) → take (prefix_len (λ b. not (b == 0)) bs) bs ≡ until_zero bs
before_zero [] = refl
before_zero (b ∷ bs) =
    elim (b == 0) as (λ t. take (cond (not t) (1 + prefix_len (λ x. not (x == 0)) bs) 0) (b ∷ bs) ≡ cond t [] (b ∷ until_zero bs)) [
      | true ↦ refl
      | false ↦ grind (arith, before_zero bs)
    ]
