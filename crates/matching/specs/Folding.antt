-- Folding: each outstanding reversal, by number, forms a group with the highest-numbered outstanding ordinary item before it that it reverses, if any.
use Rattle.std.specs.Prelude.{◌≡◌, ℕ, ◌<◌, Bool, true, cond, not, ◌&&◌, List, length, neg_ℤ, None, Option, ◌≢◌}
use Rattle.domain.specs.declared.entry.Item.{Item}
use Rattle.domain.specs.Entries.{same_int, is_reversal}
use Rattle.domain.specs.Keys.{is_blank_key, same_key}
use Rattle.matching.specs.Grouping.{item_at, highest_below, paired_up_to, pairs_up_to}
use Rattle.domain.specs.Items.{outstanding, open_on}

abbrev pub open_reversal : Item → Bool
open_reversal x = outstanding x && is_reversal x.entry.kind

-- an outstanding ordinary item of the reversal's side, with its key (not blank) and the opposite amount
abbrev pub undoes : Item → Item → Bool
undoes r x =
    (open_on r.side x && not (is_reversal x.entry.kind))
    && ((not (is_blank_key r.entry.key) && same_key r.entry.key x.entry.key) && same_int r.entry.amount.minor (neg_ℤ x.entry.amount.minor))

-- the position of the item that the item at a position reverses
abbrev pub original_of : List Item → ℕ → Option ℕ
original_of xs i = cond (open_reversal (item_at xs i)) (highest_below (undoes (item_at xs i)) i xs) None

abbrev pub folded : List Item → List Item
folded xs = paired_up_to original_of (length xs) xs

-- how many groups the folding forms
abbrev pub folds : List Item → ℕ
folds xs = pairs_up_to original_of (length xs) xs

-- no outstanding reversal is left that undoes an item before it
abbrev pub NoneToFold : List Item → Type 0
NoneToFold xs = (i j : ℕ) → i < length xs → j < i → open_reversal (item_at xs i) ≡ true → undoes (item_at xs i) (item_at xs j) ≢ true
