-- Taking what remains of a source's statement.
use Rattle.std.specs.Prelude.{ℕ, ◌+◌, List, [], ◌++◌, map, length, take, drop, ℤ, None, Option, nat_lt}
use Rattle.std.specs.Option.{option_or}
use Rattle.domain.specs.declared.entry.Side.{Side}
use Rattle.domain.specs.declared.entry.Entry.{Entry}
use Rattle.domain.specs.declared.entry.Item.{Item}
use Rattle.domain.specs.declared.refusal.Refusal.{Refusal}
use Rattle.domain.specs.declared.refusal.Refusal.TheVariants.{BadTable, NoRoom}
use Rattle.source.specs.Statement.{Statement}
use Rattle.ledger.specs.declared.ledger.Ledger.{Ledger}
use Rattle.ledger.specs.Denials.{refused_if, bad_table}
use Rattle.ledger.specs.Records.{side_of, follow_denied, settled}
use Rattle.domain.specs.Items.{outstanding_item}

-- The balance reached is the opening, so one that is no amount is no side's closing. A source's number is one, and its entries are few enough.
abbrev pub room_denied : Ledger → ℕ → Side → ℕ → ℤ → ℕ → ℕ → Option Refusal
room_denied l n side number reached day count =
    refused_if (bad_table n l.used) BadTable
    (option_or (follow_denied (side_of l side) number reached day)
    (refused_if (nat_lt n (l.used + count)) NoRoom None))

abbrev pub take_denied : Ledger → ℕ → Side → Statement → Option Refusal
take_denied l n side s = room_denied l n side s.number s.reached s.closing_day.number (length s.remaining)

abbrev pub taken_ledger : Ledger → Side → Statement → Ledger
taken_ledger l side s = settled l side s.number s.closing_day s.closing (l.used + length s.remaining)

-- a table with entries laid over it from a position on, as outstanding items of a side
abbrev pub laid : Side → List Item → ℕ → List Entry → List Item
laid side t from es = take from t ++ (map (outstanding_item side) es ++ drop (from + length es) t)

-- a statement of which nothing remains: the balance reached is the closing
abbrev pub spent : Statement → Statement
spent s = record { number = s.number; opening_day = s.opening_day; closing_day = s.closing_day; reached = s.closing.minor; remaining = []; closing = s.closing }
