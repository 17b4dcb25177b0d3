-- What a key says.
use Rattle.std.specs.Prelude.{ℕ, ◌/◌, ◌%◌, Bool, cond, ◌&&◌, List, [], ◌∷◌, ◌++◌, ◌==◌}
use Rattle.domain.specs.declared.key.Key.{Key}

abbrev pub is_blank_key : Key → Bool
is_blank_key k = k.high == 0 && k.low == 0

abbrev pub same_key : Key → Key → Bool
same_key a b = a.high == b.high && a.low == b.low

-- the eight bytes of a number, high byte first
abbrev pub unpacked : ℕ → List ℕ
unpacked n =
    (n / 72057594037927936 % 256) ∷ (n / 281474976710656 % 256) ∷ (n / 1099511627776 % 256) ∷ (n / 4294967296 % 256)
    ∷ (n / 16777216 % 256) ∷ (n / 65536 % 256) ∷ (n / 256 % 256) ∷ (n % 256) ∷ []

unfoldable pub bytes_of : Key → List ℕ
bytes_of k = unpacked k.high ++ unpacked k.low

-- the bytes before the first zero byte
abbrev pub until_zero : List ℕ → List ℕ
until_zero [] = []
until_zero (b ∷ bs) = cond (b == 0) [] (b ∷ until_zero bs)

-- what is printed for a key; nothing for the blank one
unfoldable pub printed_key : Key → List ℕ
printed_key k = until_zero (bytes_of k)
