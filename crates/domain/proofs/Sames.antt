-- The test of two runs of bytes, and of two whole numbers, decides whether they are equal.
use Rattle.std.proofs.Common.{◌≡◌, ℕ, eqb, List, [], ◌∷◌, ℤ, Decides, refl, arith}
use Rattle.std.proofs.lemmas.Int.{ints}
use Rattle.std.proofs.lemmas.Bool.{false≢true}
use Rattle.std.proofs.lemmas.Bool.Decides.{Decides-and, Decides-eqb}
use Rattle.domain.specs.References.{same_bytes}
use Rattle.domain.specs.Entries.{same_int}

pub decides_same : (xs ys : List ℕ) → Decides (same_bytes xs ys) (xs ≡ ys)
decides_same [] [] = (λ _. refl, λ _. refl)
decides_same [] (y ∷ ys) = (λ e. absurd (false≢true e), λ e. absurd (let z : ◌≡◌ {A = ℕ} 0 1 = cc in omega arith))
decides_same (x ∷ xs) [] = (λ e. absurd (false≢true e), λ e. absurd (let z : ◌≡◌ {A = ℕ} 0 1 = cc in omega arith))
decides_same (x ∷ xs) (y ∷ ys) =
    let d = Decides-and (eqb x y) (same_bytes xs ys) (Decides-eqb x y) (decides_same xs ys) in
    (λ e. let p = d.0 e in let i = p.0 in let j = p.1 in cc, λ e. let i : x ≡ y = cc in let j : xs ≡ ys = cc in d.1 (i, j))

pub decides_same_int : (a b : ℤ) → Decides (same_int a b) (a ≡ b)
decides_same_int a b = (λ e. grind (arith, ints), λ e. grind (arith, ints))
