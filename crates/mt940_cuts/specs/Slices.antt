-- How runs of bytes begin, and how many there are.
use Rattle.std.specs.Prelude.{ℕ, Bool, cond, ◌&&◌, List, length, take, Some, None, Option, ◌==◌, nat_le}
use Rattle.domain.specs.References.{same_bytes}
use Rattle.fields.specs.Runs.{all_digits}

-- a line begins with these bytes
unfoldable pub starts_with : List ℕ → List ℕ → Bool
starts_with line head = same_bytes (take (length head) line) head

-- 1 to `most` bytes
unfoldable pub is_sized : ℕ → List ℕ → Bool
is_sized most bytes = nat_le 1 (length bytes) && nat_le (length bytes) most

-- n digits
unfoldable pub is_date : ℕ → List ℕ → Bool
is_date n bytes = length bytes == n && all_digits bytes

-- the first n bytes where they are n digits
unfoldable pub digits_at : ℕ → List ℕ → Option (List ℕ)
digits_at n bytes = cond (is_date n (take n bytes)) (Some (take n bytes)) None
