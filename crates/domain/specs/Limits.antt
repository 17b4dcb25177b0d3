-- How large an amount, a day and a statement number may be.
use Rattle.std.specs.Prelude.{ℕ, Bool, ◌&&◌, ℤ, pos, neg_ℤ, ◌≤ℤ◌, nat_le}

-- a whole number of minor units is an amount
abbrev pub InAmount : ℤ → Type 0
InAmount z = (neg_ℤ (pos 99999999999999) ≤ℤ z) × (z ≤ℤ pos 99999999999999)

-- statements are numbered from 1 to 99,999
abbrev pub is_number : ℕ → Bool
is_number n = nat_le 1 n && nat_le n 99999
