-- Searches, and the passes that join what they find.
use Rattle.std.proofs.Common.{◌≡◌, ℕ, zero, suc, ◌+◌, ◌<◌, ◌≤◌, Bool, true, false, List, length, get_or, take, is_some, Some, None, Option, sym, refl, ap, ◌∙◌, ⊎_elim, add-one, arith}
use Rattle.std.proofs.lemmas.List.{get_or_default, get_or-take, length-take-le}
use Rattle.std.proofs.lemmas.Bool.{cond-true, cond-false, cases_Bool, cases_lt}
use Rattle.domain.specs.declared.entry.Item.{Item}
use Rattle.domain.specs.Blanks.{blank}
use Rattle.matching.specs.Grouping.{Finder, highest_below, item_at, joined_at, joined_with, paired_up_to, pairs_up_to, counted}

-- an element that was read at a position is the item there
pub read_at : (xs : List Item) (i : ℕ) (x : Item) → i < length xs → x ≡ get_or xs i x → item_at xs i ≡ x
read_at xs i x lt is = get_or_default xs i blank x lt ∙ sym is

-- what is found stands below, and passes
pub highest_at : (test : Item → Bool) (n : ℕ) (xs : List Item) (j : ℕ) → highest_below test n xs ≡ Some j → (j < n) × (test (item_at xs j) ≡ true)
highest_at test zero xs j e = cc
highest_at test (suc n) xs j e =
    ⊎_elim
    (λ t. let s : Some n ≡ Some j = sym (cond-true (test (item_at xs n)) (Some n) (highest_below test n xs) t) ∙ e in
    let q : n ≡ j = cc in (omega arith, ap (λ k. test (item_at xs k)) (sym q) ∙ t))
    (λ f. let r = highest_at test n xs j (sym (cond-false (test (item_at xs n)) (Some n) (highest_below test n xs) f) ∙ e) in (omega arith, r.1))
    (cases_Bool (test (item_at xs n)))

-- where a pass stands after n positions
abbrev pub Passing : Finder → ℕ → List Item → List Item → ℕ → Type 0
Passing find n xs ys k = (ys ≡ paired_up_to find n xs) × (k ≡ pairs_up_to find n xs)

pass_more : (find : Finder) (n : ℕ) (xs ys zs : List Item) (o : Option ℕ) (k m : ℕ) → Passing find n xs ys k → o ≡ find ys n → zs ≡ joined_with ys n o
    → m ≡ k + counted (is_some o) → Passing find (n + 1) xs zs m
pass_more find n xs ys zs o k m p f z e = rw (add-one n) (cc, cc)

-- a position that found another, and one that did not
pub pass_some : (find : Finder) (n : ℕ) (xs ys ws zs : List Item) (j k m : ℕ) → Passing find n xs ys k → Some j ≡ find ys n → zs ≡ ws → ws ≡ joined_at ys n j → m ≡ k + 1
    → Passing find (n + 1) xs zs m
pass_some find n xs ys ws zs j k m p f a b e = pass_more find n xs ys zs (Some j) k m p f (a ∙ b) e

pub pass_none : (find : Finder) (n : ℕ) (xs ys zs : List Item) (k m : ℕ) → Passing find n xs ys k → None ≡ find ys n → zs ≡ ys → m ≡ k → Passing find (n + 1) xs zs m
pass_none find n xs ys zs k m p f a e = pass_more find n xs ys zs None k m p f a (omega arith)

-- the highest position that passes, and what it takes to be that
pub highest_none_below : (test : Item → Bool) (n : ℕ) (xs : List Item) → ((k : ℕ) → k < n → test (item_at xs k) ≡ false) → highest_below test n xs ≡ None
highest_none_below test zero xs none = refl
highest_none_below test (suc n) xs none = cond-false _ _ _ (none n (omega arith)) ∙ highest_none_below test n xs (λ k lt. none k (omega arith))

pub highest_is : (test : Item → Bool) (n : ℕ) (xs : List Item) (i : ℕ) → i < n → test (item_at xs i) ≡ true → ((k : ℕ) → i < k → k < n → test (item_at xs k) ≡ false)
    → highest_below test n xs ≡ Some i
highest_is test zero xs i lt here above = absurd (omega arith)
highest_is test (suc n) xs i lt here above =
    ⊎_elim
    (λ l. cond-false _ _ _ (above n l (omega arith)) ∙ highest_is test n xs i l here (λ k a b. above k a (omega arith)))
    (λ ge. let q : i ≡ n = omega arith in cond-true _ _ _ (ap (λ k. test (item_at xs k)) (sym q) ∙ here) ∙ ap Some (sym q))
    (cases_lt i n)

-- what a search from the end answers
pub highest_found : (test : Item → Bool) (xs : List Item) (r : Option ℕ) → (r ≡ None → (k : ℕ) → k < length xs → test (item_at xs k) ≡ false)
    → ((i : ℕ) → r ≡ Some i → (i < length xs) × (test (item_at xs i) ≡ true) × ((k : ℕ) → i < k → k < length xs → test (item_at xs k) ≡ false))
    → r ≡ highest_below test (length xs) xs
highest_found test xs None none some = sym (highest_none_below test (length xs) xs (none refl))
highest_found test xs (Some i) none some = let h = some i refl in sym (highest_is test (length xs) xs i h.0 h.1 h.2)

-- items behind those that are searched do not matter
highest_within : (test : Item → Bool) (m n : ℕ) (xs : List Item) → m ≤ n → highest_below test m (take n xs) ≡ highest_below test m xs
highest_within test zero n xs le = refl
highest_within test (suc m) n xs le =
    ap (λ x. mathlib.Core.Bool.cond (test x) (Some m) (highest_below test m (take n xs))) (get_or-take n xs m blank (omega arith))
    ∙ ap (λ o. mathlib.Core.Bool.cond (test (item_at xs m)) (Some m) o) (highest_within test m n xs (omega arith))

pub highest_in_front : (test : Item → Bool) (n : ℕ) (xs : List Item) → n ≤ length xs → highest_below test (length (take n xs)) (take n xs) ≡ highest_below test n xs
highest_in_front test n xs le = ap (λ m. highest_below test m (take n xs)) (length-take-le n xs le) ∙ highest_within test n n xs (omega arith)
