-- References and their keys.
use Rattle.std.specs.Prelude.{◌≡◌, ℕ, zero, suc, ◌+◌, ◌*◌, Bool, true, cond, ◌&&◌, ◌||◌, List, [], ◌∷◌, length, drop, codes, nat_le}
use Rattle.std.specs.List.{list_all}
use Rattle.std.specs.Str.{bytes_eq}

abbrev pub is_plain : ℕ → Bool
is_plain b = nat_le 32 b && nat_le b 126

-- each byte is one from 32 to 126
abbrev pub plain : List ℕ → Bool
plain bytes = list_all is_plain bytes

abbrev pub same_bytes : List ℕ → List ℕ → Bool
same_bytes a b = bytes_eq a b

-- a reference has up to 16 bytes from 32 to 126
abbrev pub is_reference : List ℕ → Bool
is_reference r = nat_le (length r) 16 && plain r

-- the empty reference and NONREF have the blank key
abbrev pub is_blank : List ℕ → Bool
is_blank r = same_bytes r [] || same_bytes r (codes "NONREF")

-- n bytes of a list as a number behind `sofar`, high byte first, zero bytes where the list has ended
abbrev pub packed : ℕ → ℕ → List ℕ → ℕ
packed zero sofar bs = sofar
packed (suc n) sofar [] = packed n (sofar * 256) []
packed (suc n) sofar (b ∷ bs) = packed n (sofar * 256 + b) bs

-- The key of a reference: its bytes, zero bytes behind them, as two whole numbers of 64 bits.
abbrev pub high_of : List ℕ → ℕ
high_of r = cond (is_blank r) 0 (packed 8 0 r)

abbrev pub low_of : List ℕ → ℕ
low_of r = cond (is_blank r) 0 (packed 8 0 (drop 8 r))

-- some reference has this key
abbrev pub IsKey : ℕ → ℕ → Type 0
IsKey high low = ∥ ((r : List ℕ) × (is_reference r ≡ true) × (high_of r ≡ high) × (low_of r ≡ low)) ∥₁
