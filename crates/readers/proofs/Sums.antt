-- A balance and an amount, as the code adds them.
use Rattle.std.proofs.Common.{◌≡◌, ℤ, ◌+ℤ◌, arith, w64, SFits, to_z, of_z}
use Rattle.std.proofs.lemmas.Int.{ints, to_z-of_z}
use Rattle.domain.specs.declared.amount.Amount.{Amount}

module _ (y r : ℤ) (a : Amount) (f : SFits w64 y) (g : SFits w64 (y +ℤ a.minor)) (e : r ≡ a.minor) where
  read : to_z w64 (of_z w64 y) +ℤ to_z w64 (of_z w64 r) ≡ y +ℤ a.minor
  read =
      let h : SFits w64 a.minor = omega (arith, ints, a.within.0, a.within.1) in
      rw (e, to_z-of_z w64 y f, to_z-of_z w64 a.minor h)

  pub sum_fits : SFits w64 (to_z w64 (of_z w64 y) +ℤ to_z w64 (of_z w64 r))
  sum_fits = rw read g

  pub sum_is : to_z w64 (of_z w64 (to_z w64 (of_z w64 y) +ℤ to_z w64 (of_z w64 r))) ≡ y +ℤ a.minor
  sum_is = rw read (to_z-of_z w64 (y +ℤ a.minor) g)
