-- Powers of ten.
use Rattle.std.proofs.Common.{ℕ, ◌*◌, ◌^◌, ◌≤◌, lit<, mul-le-mul}
use native.Mathlib.Nat.{pow-le-pow_right}

pub power_most : (k n : ℕ) → n ≤ k → 10 ^ n ≤ 10 ^ k
power_most k n h = pow-le-pow_right {n = 10} (lit< tt) h

-- at most 14 digits
pub power_14 : (n : ℕ) → n ≤ 14 → 10 ^ n ≤ 10 ^ 14
power_14 n h = power_most 14 n h

-- and a product of two
pub scaled_most : (a k : ℕ) → a ≤ 10 ^ 14 → k ≤ 3 → a * 10 ^ k ≤ 10 ^ 17
scaled_most a k h l = mul-le-mul h (power_most 3 k l)
