-- Groups of two among the items of a table. An item's number is its position, counted from 1.
use Rattle.std.specs.Borrow.{Bor}
use Rattle.std.specs.Prelude.{◌≡◌, ◌<◌, ℕ, zero, suc, ◌+◌, min, Bool, cond, List, length, is_some, Some, None, Option, nat_le, slice_index_or, slice_set}
use Rattle.domain.specs.declared.entry.Item.{Item}
use Rattle.domain.specs.Blanks.{blank}

-- the item at a position
abbrev pub item_at : List Item → ℕ → Item
item_at xs i = slice_index_or xs i blank

abbrev pub regroup : ℕ → Item → Item
regroup g x = record { entry = x.entry; side = x.side; group = g }

abbrev pub regroup_at : List Item → ℕ → ℕ → List Item
regroup_at xs i g = slice_set xs i (regroup g (item_at xs i))

-- two positions as a group: its number is the smaller of the two item numbers
abbrev pub joined_at : List Item → ℕ → ℕ → List Item
joined_at xs i j = regroup_at (regroup_at xs i (min i j + 1)) j (min i j + 1)

abbrev pub joined_with : List Item → ℕ → Option ℕ → List Item
joined_with xs i None = xs
joined_with xs i (Some j) = joined_at xs i j

-- A way to find the position that forms a group with a position of the items, if one does.
abbrev pub Finder : Type 0
Finder = List Item → ℕ → Option ℕ

-- what is answered within the items is what a finder finds
abbrev pub FindsBy : Finder → (Bor (List Item) → ℕ → Option ℕ → Type 0) → Type 0
FindsBy find post = (xs : Bor (List Item)) (i : ℕ) (found : Option ℕ) → i < length xs.now → post xs i found → found ≡ find xs.now i

-- the items after each position below n, in order, has had its turn to find another
abbrev pub paired_up_to : Finder → ℕ → List Item → List Item
paired_up_to find zero xs = xs
paired_up_to find (suc n) xs = joined_with (paired_up_to find n xs) n (find (paired_up_to find n xs) n)

abbrev pub counted : Bool → ℕ
counted b = cond b 1 0

-- how many found another
abbrev pub pairs_up_to : Finder → ℕ → List Item → ℕ
pairs_up_to find zero xs = 0
pairs_up_to find (suc n) xs = pairs_up_to find n xs + counted (is_some (find (paired_up_to find n xs) n))

-- the highest position below n of an item that passes a test
abbrev pub highest_below : (Item → Bool) → ℕ → List Item → Option ℕ
highest_below test zero xs = None
highest_below test (suc n) xs = cond (test (item_at xs n)) (Some n) (highest_below test n xs)

-- More items than a table may have are left alone.
abbrev pub if_few : {X : Type 0} → List Item → X → X → X
if_few xs new old = cond (nat_le (length xs) 8192) new old

-- what a pass over all positions leaves of the items, and how many groups it forms
abbrev pub Grouped : Finder → List Item → List Item → ℕ → Type 0
Grouped find xs ys n = (ys ≡ if_few xs (paired_up_to find (length xs) xs) xs) × (n ≡ if_few xs (pairs_up_to find (length xs) xs) 0)
