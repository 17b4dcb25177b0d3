-- Two digits and the number that they write.
use Rattle.std.proofs.Common.{◌≡◌, ℕ, ◌+◌, ◌-◌, ◌*◌, ◌/◌, ◌%◌, ◌<◌, ◌≤◌, true, List, [], ◌∷◌, ◌++◌, length, get_or, take, refl, ap, ◌∙◌, arith}
use Rattle.std.proofs.lemmas.Bool.{and_from}
use Rattle.std.proofs.lemmas.Bool.Decides.{nat_tests}
use Rattle.std.proofs.lemmas.List.Sums.{AllPass-from_list_all}
use Rattle.fields.specs.Runs.{is_digit, all_digits}
use Rattle.calendar.specs.Dates.{two}

pub digit_in : (bs : List ℕ) (i : ℕ) → i < length bs → all_digits bs ≡ true → is_digit (get_or bs i 0) ≡ true
digit_in bs i h e = AllPass-from_list_all is_digit bs e i 0 h

is_digit_lem : (q : ℕ) → q ≤ 9 → is_digit (48 + q) ≡ true
is_digit_lem q h = grind (arith, nat_tests)

pub digits_two : (n : ℕ) (bs : List ℕ) → n < 100 → all_digits bs ≡ true → all_digits (two n ++ bs) ≡ true
digits_two n bs h e =
    and_from (is_digit (48 + n / 10)) _ (is_digit_lem (n / 10) (omega arith))
    (and_from (is_digit (48 + n % 10)) (all_digits bs) (is_digit_lem (n % 10) (omega arith)) e)

pub two_worth : (n : ℕ) → (48 + n / 10 - 48) * 10 + (48 + n % 10 - 48) ≡ n
two_worth n = omega arith

pub two_back : (x y : ℕ) (bs : List ℕ) → is_digit x ≡ true → is_digit y ≡ true → two ((x - 48) * 10 + (y - 48)) ++ bs ≡ x ∷ y ∷ bs
two_back x y bs p q =
    let a : 48 + ((x - 48) * 10 + (y - 48)) / 10 ≡ x = grind (arith, nat_tests) in
    let b : 48 + ((x - 48) * 10 + (y - 48)) % 10 ≡ y = grind (arith, nat_tests) in
    ap (λ (v : ℕ). v ∷ (48 + ((x - 48) * 10 + (y - 48)) % 10) ∷ bs) a ∙ ap (λ (v : ℕ). x ∷ v ∷ bs) b

-- a list of six is its six elements
pub six : (xs : List ℕ) → length xs ≡ 6 → get_or xs 0 0 ∷ get_or xs 1 0 ∷ get_or xs 2 0 ∷ get_or xs 3 0 ∷ get_or xs 4 0 ∷ get_or xs 5 0 ∷ [] ≡ xs
six [] h = absurd (omega arith)
six (a ∷ []) h = absurd (omega arith)
six (a ∷ b ∷ []) h = absurd (omega arith)
six (a ∷ b ∷ c ∷ []) h = absurd (omega arith)
six (a ∷ b ∷ c ∷ d ∷ []) h = absurd (omega arith)
six (a ∷ b ∷ c ∷ d ∷ e ∷ []) h = absurd (omega arith)
six (a ∷ b ∷ c ∷ d ∷ e ∷ f ∷ []) h = refl
six (a ∷ b ∷ c ∷ d ∷ e ∷ f ∷ g ∷ gs) h = absurd (omega arith)

four : (xs : List ℕ) → length xs ≡ 4 → get_or xs 0 0 ∷ get_or xs 1 0 ∷ get_or xs 2 0 ∷ get_or xs 3 0 ∷ [] ≡ xs
four [] h = absurd (omega arith)
four (a ∷ []) h = absurd (omega arith)
four (a ∷ b ∷ []) h = absurd (omega arith)
four (a ∷ b ∷ c ∷ []) h = absurd (omega arith)
four (a ∷ b ∷ c ∷ d ∷ []) h = refl
four (a ∷ b ∷ c ∷ d ∷ e ∷ es) h = absurd (omega arith)

-- a year before a month and a day
pub year_first : (v m : List ℕ) → 2 ≤ length v → length m ≡ 4 → get_or v 0 0 ∷ get_or v 1 0 ∷ get_or m 0 0 ∷ get_or m 1 0 ∷ get_or m 2 0 ∷ get_or m 3 0 ∷ [] ≡ take 2 v ++ m
year_first [] m h e = absurd (omega arith)
year_first (a ∷ []) m h e = absurd (omega arith)
year_first (a ∷ b ∷ v) m h e = ap (λ l. a ∷ b ∷ l) (four m e)
