-- A currency: three capitals.
use Rattle.std.specs.Prelude.{ℕ, Bool, ◌&&◌, List, length, ◌==◌, nat_le, slice_index}

abbrev pub is_capital : ℕ → Bool
is_capital b = nat_le 65 b && nat_le b 90

abbrev pub is_currency : List ℕ → Bool
is_currency code = length code == 3 && (is_capital (slice_index code 0) && (is_capital (slice_index code 1) && is_capital (slice_index code 2)))
