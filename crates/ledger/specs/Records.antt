-- The ledger and the records of its two sides.
use Rattle.std.specs.Prelude.{ℕ, not, List, ℤ, None, Ok, Err, Option, Result, ◌==◌, nat_lt}
use Rattle.domain.specs.declared.account.Account.{Account}
use Rattle.domain.specs.declared.amount.Amount.{Amount}
use Rattle.domain.specs.declared.day.Day.{Day}
use Rattle.domain.specs.declared.entry.Side.{Side}
use Rattle.domain.specs.declared.entry.Side.TheVariants.{Bank, Book}
use Rattle.domain.specs.declared.refusal.Refusal.{Refusal}
use Rattle.domain.specs.declared.refusal.Refusal.TheVariants.{NumberRepeated, WrongOpening, DayBefore}
use Rattle.domain.specs.Accounts.{account_of, and_then}
use Rattle.domain.specs.Entries.{same_int}
use Rattle.ledger.specs.declared.record.SideRecord.{SideRecord}
use Rattle.ledger.specs.declared.ledger.Ledger.{Ledger}
use Rattle.ledger.specs.Denials.{refused_if, table_denied, answered}

-- a side before its first statement: its closing is its opening
abbrev pub new_record : Amount → Day → SideRecord
new_record opening first = record { opening = opening; closing = opening; number = 0; last_day = first }

abbrev pub new_ledger : Account → Day → Amount → Amount → Ledger
new_ledger account first bank book = record { account = account; first_day = first; used = 0; bank = new_record bank first; book = new_record book first }

-- opening: digits that are none, a currency that is none, and a bad table are refused, in this order
abbrev pub opened : List ℕ → ℕ → Day → Amount → Amount → ℕ → Result Ledger Refusal
opened code digits first bank book n =
    and_then (account_of code digits) (λ account. answered (table_denied n 0) (new_ledger account first bank book))

-- what a call leaves by its answer: the new, or where it refused the old
abbrev pub if_ok : {X Y : Type 0} → Result X Refusal → Y → Y → Y
if_ok (Ok x) new old = new
if_ok (Err why) new old = old

abbrev pub side_of : Ledger → Side → SideRecord
side_of l Bank = l.bank
side_of l Book = l.book

-- why a statement does not follow a side's last one: its number, its opening, its closing day
abbrev pub follow_denied : SideRecord → ℕ → ℤ → ℕ → Option Refusal
follow_denied r number opening day =
    refused_if (number == r.number) NumberRepeated
    (refused_if (not (same_int opening r.closing.minor)) WrongOpening
    (refused_if (nat_lt day r.last_day.number) DayBefore None))

-- a side after a statement: its first opening stays
abbrev pub posted : SideRecord → ℕ → Day → Amount → SideRecord
posted r number day closing = record { opening = r.opening; closing = closing; number = number; last_day = day }

-- a ledger after a statement of a side: the other side stays
abbrev pub settled : Ledger → Side → ℕ → Day → Amount → ℕ → Ledger
settled l Bank number day closing used =
    record { account = l.account; first_day = l.first_day; used = used; bank = posted l.bank number day closing; book = l.book }
settled l Book number day closing used =
    record { account = l.account; first_day = l.first_day; used = used; bank = l.bank; book = posted l.book number day closing }
