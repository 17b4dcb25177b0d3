-- The lines of a text.
use Rattle.std.specs.Prelude.{ℕ, ◌+◌, ◌-◌, Bool, cond, ◌&&◌, ◌||◌, List, [], ◌∷◌, length, take, Option, ◌==◌, nat_le, slice_index}
use Rattle.std.specs.List.{position_from}
use Rattle.domain.specs.References.{plain}

-- where the first byte b of a list stands, counted from i
abbrev pub from : ℕ → ℕ → List ℕ → Option ℕ
from b i xs = position_from (λ x. x == b) i xs

-- a byte in front of the first of some lines; where there is none, no LF ends its line
abbrev pub ahead : ℕ → List (List ℕ) → List (List ℕ)
ahead b [] = []
ahead b (l ∷ ls) = (b ∷ l) ∷ ls

-- the lines of a text, each without its LF; what stands behind the last LF is no line
abbrev pub split : List ℕ → List (List ℕ)
split [] = []
split (b ∷ bs) = cond (b == 10) ([] ∷ split bs) (ahead b (split bs))

-- the lines of a text whose first byte stands at the offset `at`, each behind the offset of its first byte
abbrev pub numbered : ℕ → List (List ℕ) → List (ℕ × List ℕ)
numbered at [] = []
numbered at (l ∷ ls) = (at, l) ∷ numbered (at + length l + 1) ls

abbrev pub lines_from : ℕ → List ℕ → List (ℕ × List ℕ)
lines_from at bs = numbered at (split bs)

-- a line without its CR
unfoldable pub content_of : List ℕ → List ℕ
content_of raw = cond (nat_le 1 (length raw) && slice_index raw (length raw - 1) == 13) (take (length raw - 1) raw) raw

-- a text is empty or ends with an LF, so that no line of it is cut off
unfoldable pub is_whole : List ℕ → Bool
is_whole text = length text == 0 || slice_index text (length text - 1) == 10

-- a line has 1 to 80 bytes from 32 to 126
unfoldable pub is_formed : List ℕ → Bool
is_formed line = nat_le 1 (length line) && (nat_le (length line) 80 && plain line)
