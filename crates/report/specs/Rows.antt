-- The lines of a report: fields parted by commas, ended by LF.
use Rattle.std.specs.Prelude.{ℕ, List, [], ◌∷◌, ◌++◌, ◌-ℤ◌, codes, decimal}
use Rattle.std.specs.Fmt.{signed_decimal}
use Rattle.domain.specs.declared.account.Account.{Account}
use Rattle.domain.specs.declared.amount.Amount.{Amount}
use Rattle.domain.specs.Accounts.{digit_count}
use Rattle.domain.specs.declared.entry.Item.{Item}
use Rattle.domain.specs.declared.entry.Side.{Side}
use Rattle.domain.specs.declared.entry.Side.TheVariants.{Bank, Book}
use Rattle.domain.specs.Keys.{printed_key}
use Rattle.calendar.specs.Dates.{date_text}
use Rattle.ledger.specs.declared.record.SideRecord.{SideRecord}

-- a field with others behind it
abbrev pub row : List ℕ → List (List ℕ) → List ℕ
row f [] = f ++ 10 ∷ []
row f (g ∷ gs) = f ++ 44 ∷ row g gs

-- R: currency and digits
abbrev pub currency_row : Account → List ℕ
currency_row account = row (codes "R") (account.currency.code ∷ decimal (digit_count account.digits) ∷ [])

-- D: first bank opening less first book opening
abbrev pub difference_row : Amount → Amount → List ℕ
difference_row bank book = row (codes "D") (signed_decimal (bank.minor -ℤ book.minor) ∷ [])

-- B or H: last number, last closing day, closing
abbrev pub side_row : ℕ → SideRecord → List ℕ
side_row tag r = row (tag ∷ []) (decimal r.number ∷ date_text r.last_day.number ∷ signed_decimal r.closing.minor ∷ [])

abbrev pub side_tag : Side → ℕ
side_tag Bank = 66
side_tag Book = 72

-- O: B or H, item number, value day, amount, reference
abbrev pub item_row : ℕ → Item → List ℕ
item_row n x =
    row (codes "O") ((side_tag x.side ∷ []) ∷ decimal n ∷ date_text x.entry.value_day.number ∷ signed_decimal x.entry.amount.minor ∷ printed_key x.entry.key ∷ [])
