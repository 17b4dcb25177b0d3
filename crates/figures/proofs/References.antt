-- Keys and the references that they come from.
use Rattle.std.proofs.Common.{◌≡◌, ℕ, zero, suc, ◌≤◌, true, false, cond, leb, ◌⊎◌, List, [], ◌∷◌, ◌++◌, length, take, drop, Some, sym, refl, ap, ◌∙◌, inl, inr, arith}
use mathlib.Core.Logic.{∥∥₁_map}
use Rattle.std.proofs.lemmas.List.{take_all, length-drop, append-nil, take-append-drop}
use Rattle.std.proofs.lemmas.Bool.{and_parts, leb-true, cases_Bool, cases_lt}
use Rattle.std.proofs.lemmas.Option.{none-some, same_Some}
use Rattle.domain.specs.declared.key.Key.{Key}
use Rattle.domain.specs.Keys.{bytes_of, unpacked, until_zero, printed_key}
use Rattle.domain.specs.Makers.{as_key}
use Rattle.domain.specs.References.{plain, is_plain, packed, is_reference, is_blank, high_of, low_of}
use Rattle.domain.proofs.Same.{as_key_lem, no_key}
use Rattle.figures.specs.Keyed.{KeysStand}
use Rattle.figures.proofs.Bytes.{padded, plain_low, unpacked_packed, until_padded, until_short}

plain_drop : (n : ℕ) (bs : List ℕ) → plain bs ≡ true → plain (drop n bs) ≡ true
plain_drop zero bs p = p
plain_drop (suc n) [] p = p
plain_drop (suc n) (b ∷ bs) p = plain_drop n bs (and_parts (is_plain b) (plain bs) p).1

-- the sixteen bytes of a reference's numbers, up to the first zero byte
text : List ℕ → List ℕ
text r = until_zero (unpacked (packed 8 0 r) ++ unpacked (packed 8 0 (drop 8 r)))

text_padded : (r : List ℕ) → plain r ≡ true → text r ≡ until_zero (padded 8 r ++ (padded 8 (drop 8 r) ++ []))
unfolding text
text_padded r p =
    ap (λ (x : List ℕ). until_zero (x ++ unpacked (packed 8 0 (drop 8 r)))) (unpacked_packed r (plain_low r p))
    ∙ ap (λ (x : List ℕ). until_zero (padded 8 r ++ x)) (unpacked_packed (drop 8 r) (plain_low (drop 8 r) (plain_drop 8 r p)) ∙ sym (append-nil (padded 8 (drop 8 r))))

-- the half behind the eighth byte
second : (bs : List ℕ) → plain bs ≡ true → length bs ≤ 8 → until_zero (padded 8 bs ++ []) ≡ bs
second bs p h = elim (cases_lt (length bs) 8) [
  | inl l ↦ until_short 8 bs [] p l
  | inr g ↦ until_padded 8 bs [] p (λ l. omega arith) ∙ append-nil (take 8 bs) ∙ take_all 8 bs h
]

text_back : (r : List ℕ) → plain r ≡ true → length r ≤ 16 → text r ≡ r
text_back r p h = elim (cases_lt (length r) 8) [
  | inl l ↦ text_padded r p ∙ until_short 8 r (padded 8 (drop 8 r) ++ []) p l
  | inr g ↦
      text_padded r p ∙ until_padded 8 r (padded 8 (drop 8 r) ++ []) p (λ l. omega arith)
      ∙ ap (λ (x : List ℕ). take 8 r ++ x) (second (drop 8 r) (plain_drop 8 r p) (simp length-drop (omega arith)))
      ∙ take-append-drop 8 r
]

-- a reference's bytes are plain and few
parts : (r : List ℕ) → is_reference r ≡ true → (plain r ≡ true) × (length r ≤ 16)
parts r e = let p = and_parts (leb (length r) 16) (plain r) e in (p.1, leb-true (length r) 16 p.0)

-- what is printed for two numbers
shown : ℕ → ℕ → List ℕ
shown h l = until_zero (unpacked h ++ unpacked l)

shown_key : (k : Key) → printed_key k ≡ shown k.high k.low
unfolding printed_key bytes_of shown
shown_key k = refl

shown_reference : (r : List ℕ) → is_reference r ≡ true → is_blank r ≡ false → shown (high_of r) (low_of r) ≡ r
unfolding shown text
shown_reference r e b = let p = parts r e in rw b (text_back r p.0 p.1)

shown_blank : (r : List ℕ) → is_blank r ≡ true → shown (high_of r) (low_of r) ≡ []
unfolding shown
shown_blank r b = rw b

same_shown : (r s : List ℕ) → high_of r ≡ high_of s → low_of r ≡ low_of s → shown (high_of r) (low_of r) ≡ shown (high_of s) (low_of s)
same_shown r s e f = ap (λ (n : ℕ). shown n (low_of r)) e ∙ ap (shown (high_of s)) f

-- a reference that is shown as a blank one is, is blank
shown_as_blank : (r s : List ℕ) → is_reference r ≡ true → is_blank s ≡ true → high_of r ≡ high_of s → low_of r ≡ low_of s → is_blank r ≡ true
shown_as_blank r s p b e f = elim (cases_Bool (is_blank r)) [
  | inl t ↦ t
  | inr n ↦ ap is_blank (sym (shown_reference r p n) ∙ same_shown r s e f ∙ shown_blank s b)
]

sharing : (r s : List ℕ) → is_reference r ≡ true → is_reference s ≡ true → high_of r ≡ high_of s → low_of r ≡ low_of s → (r ≡ s) ⊎ ((is_blank r ≡ true) × (is_blank s ≡ true))
sharing r s p q e f = elim (cases_Bool (is_blank s)) [
  | inl b ↦ inr (shown_as_blank r s p b e f, b)
  | inr n ↦ elim (cases_Bool (is_blank r)) [
    | inl b ↦ inr (b, shown_as_blank s r q b (sym e) (sym f))
    | inr m ↦ inl (sym (shown_reference r p m) ∙ same_shown r s e f ∙ shown_reference s q n)
  ]
]

shared : (r s : List ℕ) → (r ≡ s) ⊎ ((is_blank r ≡ true) × (is_blank s ≡ true)) → (high_of r ≡ high_of s) × (low_of r ≡ low_of s)
shared r s (inl e) = (ap high_of e, ap low_of e)
shared r s (inr b) = (rw (b.0, b.1), rw (b.0, b.1))

-- what is made of a reference has its numbers
pub record Keyed (r : List ℕ) (k : Key) : Type 0 where
  pub reference : is_reference r ≡ true
  pub high : k.high ≡ high_of r
  pub low : k.low ≡ low_of r

abbrev made : (r : List ℕ) → is_reference r ≡ true → Key
made r t = record { high = high_of r; low = low_of r; real = ∣ (r, t, refl, refl) ∣₁ }

keyed : (r : List ℕ) (k : Key) → as_key r ≡ Some k → Keyed r k
keyed r k e = elim (cases_Bool (is_reference r)) [
  | inl t ↦
      let s = same_Some (made r t) k (sym (as_key_lem (made r t) r t refl refl) ∙ e) in
      record { reference = t; high = ap (λ (x : Key). x.high) (sym s); low = ap (λ (x : Key). x.low) (sym s) }
  | inr f ↦ absurd (none-some k (sym (no_key r f) ∙ e))
]

printing : (r : List ℕ) (k : Key) → as_key r ≡ Some k → printed_key k ≡ cond (is_blank r) [] r
printing r k e =
    let m = keyed r k e in
    let s = shown_key k ∙ ap (λ (n : ℕ). shown n k.low) m.high ∙ ap (shown (high_of r)) m.low in
    elim (cases_Bool (is_blank r)) [ inl b ↦ rw b (s ∙ shown_blank r b) | inr n ↦ rw n (s ∙ shown_reference r m.reference n) ]

pub keys_stand : KeysStand
keys_stand =
    record {
      share = λ r s p q. (λ e. sharing r s p q e.0 e.1, shared r s);
      every = λ k. ∥∥₁_map k.real (λ w. (w.0, as_key_lem k w.0 w.1 (sym w.2) (sym w.3)));
      printed = printing;
    }
