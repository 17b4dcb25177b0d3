-- Matching: each outstanding bank item, by number, is paired with the lowest-numbered outstanding book item that the rule permits, if any.
use Rattle.std.specs.Prelude.{◌≡◌, ℕ, ◌<◌, Bool, true, cond, ◌&&◌, List, length, None, Option, ◌≢◌, position}
use Rattle.domain.specs.declared.entry.Side.TheVariants.{Bank, Book}
use Rattle.domain.specs.declared.entry.Entry.{Entry}
use Rattle.domain.specs.declared.entry.Item.{Item}
use Rattle.matching.specs.Grouping.{item_at, paired_up_to, pairs_up_to}
use Rattle.domain.specs.Items.{open_on}

-- an outstanding book item whose entry is permitted
abbrev pub partners : (Entry → Bool) → Item → Bool
partners permitted x = open_on Book x && permitted x.entry

-- the position of the book item that is paired with the item at a position
abbrev pub partner_of : (Entry → Entry → Bool) → List Item → ℕ → Option ℕ
partner_of permits xs i = cond (open_on Bank (item_at xs i)) (position (partners (permits (item_at xs i).entry)) xs) None

abbrev pub matched : (Entry → Entry → Bool) → List Item → List Item
matched permits xs = paired_up_to (partner_of permits) (length xs) xs

-- how many pairs the matching makes
abbrev pub matches : (Entry → Entry → Bool) → List Item → ℕ
matches permits xs = pairs_up_to (partner_of permits) (length xs) xs

-- no outstanding bank and book items that may pair are left
abbrev pub NoneToPair : (Entry → Entry → Bool) → List Item → Type 0
NoneToPair permits xs =
    (i j : ℕ) → i < length xs → open_on Bank (item_at xs i) ≡ true → open_on Book (item_at xs j) ≡ true → permits (item_at xs i).entry (item_at xs j).entry ≢ true
