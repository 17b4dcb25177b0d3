-- The report on a ledger and its items, byte by byte.
use Rattle.std.specs.Prelude.{ℕ, ◌+◌, cond, List, [], ◌∷◌, ◌++◌, length, take, None, Option, ◌==◌, nat_lt}
use Rattle.std.specs.List.{flat_map}
use Rattle.domain.specs.declared.entry.Item.{Item}
use Rattle.domain.specs.declared.refusal.Refusal.{Refusal}
use Rattle.domain.specs.declared.refusal.Refusal.TheVariants.{BadTable, OutputShort}
use Rattle.ledger.specs.declared.ledger.Ledger.{Ledger}
use Rattle.ledger.specs.Denials.{refused_if, bad_table}
use Rattle.report.specs.Rows.{currency_row, side_row, difference_row, item_row}
use Rattle.report.specs.Tallies.{total_row}

-- the line of an item; nothing where the item is not outstanding
abbrev pub open_row : ℕ → Item → List ℕ
open_row n x = cond (x.group == 0) (item_row n x) []

-- the lines of items by number, the first being number n
abbrev pub open_rows : ℕ → List Item → List (List ℕ)
open_rows n [] = []
open_rows n (x ∷ xs) = open_row n x ∷ open_rows (n + 1) xs

-- all lines, in order
unfoldable pub report_rows : Ledger → List Item → List (List ℕ)
report_rows l xs =
    currency_row l.account ∷ side_row 66 l.bank ∷ side_row 72 l.book ∷ difference_row l.bank.opening l.book.opening
    ∷ (open_rows 1 xs ++ total_row xs ∷ [])

-- lines one behind the other
abbrev pub together : List (List ℕ) → List ℕ
together rows = flat_map (λ r. r) rows

-- the report on a ledger and the items in use
abbrev pub report_on : Ledger → List Item → List ℕ
report_on l xs = together (report_rows l xs)

-- the report on a ledger and its table
abbrev pub report_of : Ledger → List Item → List ℕ
report_of l t = report_on l (take l.used t)

abbrev pub report_denied : Ledger → List Item → ℕ → Option Refusal
report_denied l t room =
    refused_if (bad_table (length t) l.used) BadTable
    (refused_if (nat_lt room (length (report_of l t))) OutputShort None)
