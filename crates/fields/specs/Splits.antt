-- A list cut at its first byte b.
use Rattle.std.specs.Prelude.{ℕ, List, Option, position, ◌==◌}
use Rattle.std.specs.List.{before_first, after_first}
use Rattle.std.specs.Option.{option_map}

-- what stands before the first byte b, and what stands behind it; none where there is no such byte
abbrev pub split_once : ℕ → List ℕ → Option (List ℕ × List ℕ)
split_once b bytes = option_map (λ i. (before_first (λ x. x == b) bytes, after_first (λ x. x == b) bytes)) (position (λ x. x == b) bytes)
