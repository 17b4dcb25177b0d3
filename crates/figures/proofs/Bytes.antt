-- The bytes of a number, high byte first, are those that were packed into it.
use Rattle.std.proofs.Common.{◌≡◌, ℕ, zero, suc, ◌+◌, ◌*◌, ◌/◌, ◌%◌, ◌<◌, true, false, eqb, List, [], ◌∷◌, ◌++◌, length, take, sym, refl, ap, ◌∙◌, add-suc, suc-add, zero-add, arith}
use native.Mathlib.Nat.{div-div-eq-div-mul}
use Rattle.std.proofs.lemmas.List.{append_assoc, append-nil}
use Rattle.std.proofs.lemmas.Nat.{div-mul-add, mod-mul-add}
use Rattle.std.specs.List.{AllByRecursion as All}
use Rattle.std.proofs.lemmas.Bool.Decides.{nat_tests}
use Rattle.std.proofs.lemmas.Bool.{and_parts}
use Rattle.domain.specs.References.{plain, is_plain, packed}
use Rattle.domain.specs.Keys.{unpacked, until_zero}

-- k bytes of a number
abbrev bytes : ℕ → ℕ → List ℕ
bytes zero n = []
bytes (suc k) n = bytes k (n / 256) ++ (n % 256 ∷ [])

-- k bytes of a list, zero bytes where it has ended
abbrev pub padded : ℕ → List ℕ → List ℕ
padded zero bs = []
padded (suc k) [] = 0 ∷ padded k []
padded (suc k) (b ∷ bs) = b ∷ padded k bs

unpacked_bytes : (n : ℕ) → bytes 8 n ≡ unpacked n
unpacked_bytes n = simp div-div-eq-div-mul

-- one byte behind a number
behind : (j a b : ℕ) → b < 256 → bytes (suc j) (a * 256 + b) ≡ bytes j a ++ (b ∷ [])
behind j a b h =
    ap (λ (x : ℕ). bytes j x ++ ((a * 256 + b) % 256 ∷ [])) (div-mul-add a 256 b h) ∙ ap (λ (x : ℕ). bytes j a ++ (x ∷ [])) (mod-mul-add a 256 b h)

-- each byte is below 256
abbrev pub Low : List ℕ → Type 0
Low bs = All (λ b. b < 256) bs

packed_bytes : (j k a : ℕ) (bs : List ℕ) → Low bs → bytes (k + j) (packed k a bs) ≡ bytes j a ++ padded k bs
packed_bytes j zero a bs h = ap (λ (n : ℕ). bytes n a) (zero-add j) ∙ sym (append-nil (bytes j a))
packed_bytes j (suc k) a [] h =
    ap (λ (n : ℕ). bytes n (packed k (a * 256) [])) (suc-add k j ∙ sym (add-suc k j))
    ∙ packed_bytes (suc j) k (a * 256) [] tt
    ∙ ap (λ (x : List ℕ). x ++ padded k []) (ap (bytes (suc j)) (omega arith) ∙ behind j a 0 (omega arith))
    ∙ append_assoc (bytes j a) (0 ∷ []) (padded k [])
packed_bytes j (suc k) a (b ∷ bs) h =
    ap (λ (n : ℕ). bytes n (packed k (a * 256 + b) bs)) (suc-add k j ∙ sym (add-suc k j))
    ∙ packed_bytes (suc j) k (a * 256 + b) bs h.1
    ∙ ap (λ (x : List ℕ). x ++ padded k bs) (behind j a b h.0)
    ∙ append_assoc (bytes j a) (b ∷ []) (padded k bs)

-- the eight bytes of what was packed
pub unpacked_packed : (bs : List ℕ) → Low bs → unpacked (packed 8 0 bs) ≡ padded 8 bs
unpacked_packed bs h = sym (unpacked_bytes (packed 8 0 bs)) ∙ packed_bytes 0 8 0 bs h

-- bytes of a reference are neither zero nor large
pub plain_low : (bs : List ℕ) → plain bs ≡ true → Low bs
plain_low [] e = tt
plain_low (b ∷ bs) e = let p = and_parts (is_plain b) (plain bs) e in (grind (arith, nat_tests, p.0), plain_low bs p.1)

not_zero : (b : ℕ) (bs : List ℕ) → plain (b ∷ bs) ≡ true → eqb b 0 ≡ false
not_zero b bs e = let p = and_parts (is_plain b) (plain bs) e in grind (arith, nat_tests, p.0)

-- k bytes of a reference, and what follows them, up to the first zero byte
pub until_padded : (k : ℕ) (bs rest : List ℕ) → plain bs ≡ true → (length bs < k → ⊥) → until_zero (padded k bs ++ rest) ≡ take k bs ++ until_zero rest
until_padded zero bs rest p h = refl
until_padded (suc k) [] rest p h = absurd (h (omega arith))
until_padded (suc k) (b ∷ bs) rest p h =
    rw (not_zero b bs p) (ap (λ (x : List ℕ). b ∷ x) (until_padded k bs rest (and_parts (is_plain b) (plain bs) p).1 (λ l. h (omega arith))))

pub until_short : (k : ℕ) (bs rest : List ℕ) → plain bs ≡ true → length bs < k → until_zero (padded k bs ++ rest) ≡ bs
until_short zero bs rest p h = absurd (omega arith)
until_short (suc k) [] rest p h = refl
until_short (suc k) (b ∷ bs) rest p h =
    rw (not_zero b bs p) (ap (λ (x : List ℕ). b ∷ x) (until_short k bs rest (and_parts (is_plain b) (plain bs) p).1 (omega arith)))
