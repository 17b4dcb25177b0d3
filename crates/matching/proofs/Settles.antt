-- After a pass nothing is left that could be found: joining items makes no other item outstanding.
use Rattle.std.proofs.Common.{◌≡◌, position, nat_lt, ℕ, zero, suc, ◌+◌, ◌<◌, ◌≤◌, min, Bool, true, false, ◌≢◌, List, [], ◌∷◌, length, Some, None, Option, sym, refl, ap, ◌∙◌, subst, ⊎_elim, arith}
use Rattle.std.specs.List.{position_or_len}
use Rattle.std.proofs.Math.ListN.{get_or-eq_default}
use Rattle.std.proofs.lemmas.List.{length-set, get_or-set_same}
use Rattle.std.proofs.lemmas.List.Sums.{fails_before_first}
use Rattle.std.proofs.lemmas.Bool.{and_parts, and_from, cond-true, cases_lt, true≢false, eqb-true, lt-ltb, le-leb}
use Rattle.domain.specs.declared.limits.TheConstants.{MOST_ITEMS}
use Rattle.domain.specs.declared.entry.Side.{Side}
use Rattle.domain.specs.declared.entry.Side.TheVariants.{Bank, Book}
use Rattle.domain.specs.declared.entry.Entry.{Entry}
use Rattle.domain.specs.declared.entry.Item.{Item}
use Rattle.domain.specs.Blanks.{blank}
use Rattle.domain.specs.Entries.{same_side, is_reversal}
use Rattle.matching.specs.Grouping.{Finder, item_at, regroup, regroup_at, joined_at, joined_with, paired_up_to, highest_below, if_few}
use Rattle.domain.specs.Items.{outstanding, open_on}
use Rattle.matching.specs.Matching.{partners, partner_of, matched, NoneToPair}
use Rattle.matching.specs.Folding.{open_reversal, undoes, original_of, folded, NoneToFold}

-- what is outstanding after an item was put into a group is as it was
kept_regroup : (xs : List Item) (i g : ℕ) → g ≢ 0 → (k : ℕ) → outstanding (item_at (regroup_at xs i g) k) ≡ true → item_at (regroup_at xs i g) k ≡ item_at xs k
kept_regroup [] i g ne k o = refl
kept_regroup (x ∷ xs) zero g ne zero o = absurd (ne (eqb-true g 0 o))
kept_regroup (x ∷ xs) zero g ne (suc k) o = refl
kept_regroup (x ∷ xs) (suc i) g ne zero o = refl
kept_regroup (x ∷ xs) (suc i) g ne (suc k) o = kept_regroup xs i g ne k o

kept_joined : (xs : List Item) (i j k : ℕ) → outstanding (item_at (joined_at xs i j) k) ≡ true
    → (item_at (joined_at xs i j) k ≡ item_at (regroup_at xs i (min i j + 1)) k) × (item_at (joined_at xs i j) k ≡ item_at xs k)
kept_joined xs i j k o =
    let m : ℕ = min i j + 1 in
    let ne : m ≢ 0 = λ e. omega arith in
    let a = kept_regroup (regroup_at xs i m) j m ne k o in
    (a, a ∙ kept_regroup xs i m ne k (ap outstanding (sym a) ∙ o))

-- the item that found another is not outstanding
joined_shut : (xs : List Item) (i j : ℕ) → i < length xs → outstanding (item_at (joined_at xs i j) i) ≡ true → ⊥
joined_shut xs i j lt o =
    let m : ℕ = min i j + 1 in
    let a = (kept_joined xs i j i o).0 in
    let b : item_at (regroup_at xs i m) i ≡ regroup m (item_at xs i) = get_or-set_same xs i (regroup m (item_at xs i)) blank lt in
    let q : m ≡ 0 = sym (ap (λ (x : Item). x.group) (a ∙ b)) ∙ eqb-true (item_at (joined_at xs i j) i).group 0 o in
    omega arith

length_with : (xs : List Item) (i : ℕ) (o : Option ℕ) → length (joined_with xs i o) ≡ length xs
length_with xs i None = refl
length_with xs i (Some j) = simp length-set

pub length_paired : (find : Finder) (n : ℕ) (xs : List Item) → length (paired_up_to find n xs) ≡ length xs
length_paired find zero xs = refl
length_paired find (suc n) xs = length_with (paired_up_to find n xs) n (find (paired_up_to find n xs) n) ∙ length_paired find n xs

-- what a way of finding must say of a pair of positions that it could still join
record Findable (find : Finder) (fits : List Item → ℕ → ℕ → Type 0) : Type 1 where
  none : (xs : List Item) (i j : ℕ) → find xs i ≡ None → fits xs i j → ⊥
  open_first : (xs : List Item) (i j : ℕ) → fits xs i j → outstanding (item_at xs i) ≡ true
  open_second : (xs : List Item) (i j : ℕ) → fits xs i j → outstanding (item_at xs j) ≡ true
  alike : (xs ys : List Item) (i j : ℕ) → item_at xs i ≡ item_at ys i → item_at xs j ≡ item_at ys j → fits xs i j → fits ys i j

kept_with : (xs : List Item) (i : ℕ) (o : Option ℕ) (k : ℕ) → outstanding (item_at (joined_with xs i o) k) ≡ true → item_at (joined_with xs i o) k ≡ item_at xs k
kept_with xs i None k h = refl
kept_with xs i (Some j) k h = (kept_joined xs i j k h).1

shut_with : (find : Finder) (fits : List Item → ℕ → ℕ → Type 0) → Findable find fits → (xs : List Item) (i : ℕ) → i < length xs → (o : Option ℕ) → find xs i ≡ o
    → (j : ℕ) → fits xs i j → outstanding (item_at (joined_with xs i o) i) ≡ true → ⊥
shut_with find fits F xs i lt None e j f h = F.none xs i j e f
shut_with find fits F xs i lt (Some k) e j f h = joined_shut xs i k lt h

none_fits : (find : Finder) (fits : List Item → ℕ → ℕ → Type 0) → Findable find fits → (n : ℕ) (xs : List Item) → n ≤ length xs
    → (i j : ℕ) → i < n → fits (paired_up_to find n xs) i j → ⊥
none_fits find fits F zero xs le i j lt f = omega arith
none_fits find fits F (suc n) xs le i j lt f =
    let ys : List Item = paired_up_to find n xs in
    let o : Option ℕ = find ys n in
    let zs : List Item = joined_with ys n o in
    let oi = F.open_first zs i j f in
    let ei = kept_with ys n o i oi in
    let ej = kept_with ys n o j (F.open_second zs i j f) in
    let g = F.alike zs ys i j ei ej f in
    ⊎_elim
    (λ l. none_fits find fits F n xs (omega arith) i j l g)
    (λ ge. let q : i ≡ n = omega arith in
    shut_with find fits F ys n (omega (arith, length_paired find n xs)) o refl j (subst (λ (k : ℕ). fits ys k j) q g) (subst (λ (k : ℕ). outstanding (item_at zs k) ≡ true) q oi))
    (cases_lt i n)

position_none : (test : Item → Bool) → test blank ≡ false → (xs : List Item) → position test xs ≡ None → (k : ℕ) → test (item_at xs k) ≡ true → ⊥
position_none test b xs e k t =
    ⊎_elim
    (λ l. let s : Some (position_or_len test xs) ≡ None = sym (cond-true (nat_lt (position_or_len test xs) (length xs)) _ None (lt-ltb _ _ l)) ∙ e in cc)
    (λ none. ⊎_elim
    (λ l. true≢false (sym t ∙ fails_before_first test xs k blank (omega arith)))
    (λ past. true≢false (sym t ∙ ap test (get_or-eq_default xs blank past) ∙ b))
    (cases_lt k (length xs)))
    (cases_lt (position_or_len test xs) (length xs))

highest_none : (test : Item → Bool) (n : ℕ) (xs : List Item) → highest_below test n xs ≡ None → (k : ℕ) → k < n → test (item_at xs k) ≡ true → ⊥
highest_none test zero xs e k lt t = omega arith
highest_none test (suc n) xs e k lt t = go (test (item_at xs n)) (λ l none. highest_none test n xs none k l t) refl e
  where
    go : (b : Bool) → (k < n → highest_below test n xs ≡ None → ⊥) → test (item_at xs n) ≡ b → mathlib.Core.Bool.cond b (Some n) (highest_below test n xs) ≡ None → ⊥
    go true lower f e = cc
    go false lower f e = ⊎_elim (λ l. lower l e) (λ ge. let q : k ≡ n = omega arith in true≢false (sym t ∙ ap (λ m. test (item_at xs m)) q ∙ f)) (cases_lt k n)

-- a bank item and a book item that the rule lets pair
abbrev Pairing : (Entry → Entry → Bool) → List Item → ℕ → ℕ → Type 0
Pairing permits xs i j = (open_on Bank (item_at xs i) ≡ true) × (partners (permits (item_at xs i).entry) (item_at xs j) ≡ true)

open_out : (s : Side) (x : Item) → open_on s x ≡ true → outstanding x ≡ true
open_out s x h = (and_parts (same_side x.side s) (outstanding x) h).1

pairing : (permits : Entry → Entry → Bool) → Findable (partner_of permits) (Pairing permits)
pairing permits =
    record {
      none = λ xs i j e f. position_none (partners (permits (item_at xs i).entry)) refl xs (sym (cond-true (open_on Bank (item_at xs i)) _ None f.0) ∙ e) j f.1;
      open_first = λ xs i j f. open_out Bank (item_at xs i) f.0;
      open_second = λ xs i j f. open_out Book (item_at xs j) (and_parts (open_on Book (item_at xs j)) (permits (item_at xs i).entry (item_at xs j).entry) f.1).0;
      alike = λ xs ys i j a b f. (
        ap (open_on Bank) (sym a) ∙ f.0,
        ap (λ (x : Item). partners (permits x.entry) (item_at ys j)) (sym a) ∙ ap (λ (y : Item). partners (permits (item_at xs i).entry) y) (sym b) ∙ f.1,
      );
    }

pub none_to_pair : (permits : Entry → Entry → Bool) (xs ys : List Item) → ys ≡ matched permits xs → NoneToPair permits ys
none_to_pair permits xs ys e =
    subst (NoneToPair permits) (sym e) (λ i j li oi oj p.
    none_fits (partner_of permits) (Pairing permits) (pairing permits) (length xs) xs (omega arith) i j (omega (arith, length_paired (partner_of permits) (length xs) xs)) (oi, and_from _ _ oj p))

-- what a pass leaves that keeps to the items of a table
few_passed : (xs ys passed : List Item) → ys ≡ if_few xs passed xs → length xs ≤ MOST_ITEMS → ys ≡ passed
few_passed xs ys passed e few = e ∙ cond-true _ _ _ (le-leb _ _ few)

pub none_to_pair_few : (permits : Entry → Entry → Bool) (xs ys : List Item) → ys ≡ if_few xs (matched permits xs) xs → length xs ≤ MOST_ITEMS → NoneToPair permits ys
none_to_pair_few permits xs ys e few = none_to_pair permits xs ys (few_passed xs ys (matched permits xs) e few)

-- a reversal and an item before it that it undoes
abbrev Undoing : List Item → ℕ → ℕ → Type 0
Undoing xs i j = (j < i) × (open_reversal (item_at xs i) ≡ true) × (undoes (item_at xs i) (item_at xs j) ≡ true)

undoing : Findable original_of Undoing
undoing =
    record {
      none = λ xs i j e f. highest_none (undoes (item_at xs i)) i xs (sym (cond-true (open_reversal (item_at xs i)) _ None f.1) ∙ e) j f.0 f.2;
      open_first = λ xs i j f. (and_parts (outstanding (item_at xs i)) (is_reversal (item_at xs i).entry.kind) f.1).0;
      open_second = λ xs i j f. open_out (item_at xs i).side (item_at xs j) (and_parts _ _ (and_parts _ _ f.2).0).0;
      alike = λ xs ys i j a b f. (
        f.0,
        ap open_reversal (sym a) ∙ f.1,
        ap (λ (x : Item). undoes x (item_at ys j)) (sym a) ∙ ap (undoes (item_at xs i)) (sym b) ∙ f.2,
      );
    }

pub none_to_fold : (xs ys : List Item) → ys ≡ folded xs → NoneToFold ys
none_to_fold xs ys e =
    subst NoneToFold (sym e) (λ i j li lj r u.
    none_fits original_of Undoing undoing (length xs) xs (omega arith) i j (omega (arith, length_paired original_of (length xs) xs)) (lj, r, u))

pub none_to_fold_few : (xs ys : List Item) → ys ≡ if_few xs (folded xs) xs → length xs ≤ MOST_ITEMS → NoneToFold ys
none_to_fold_few xs ys e few = none_to_fold xs ys (few_passed xs ys (folded xs) e few)
