-- What a text says as a cash book: its statement, or the refusal with the offset of its line.
use Rattle.std.specs.Prelude.{ℕ, List, length, Option, Result}
use Rattle.domain.specs.declared.entry.Entry.{Entry}
use Rattle.domain.specs.declared.entry.Place.{Place}
use Rattle.domain.specs.declared.refusal.Refused.{Refused}
use Rattle.source.specs.declared.Head.{Head}
use Rattle.source.specs.Statement.{Statement}
use Rattle.text.specs.Lines.{content_of}
use Rattle.domain.specs.declared.account.Account.{Account}
use Rattle.readers.specs.Whole as readers
use Rattle.book_lines.specs.Reading.{entry_in}
use Rattle.book.specs.declared.state.State.{State}
use Rattle.book.specs.Judging.{begin, is_done, step_of}

abbrev pub begin_for : Account → State
begin_for account = begin account.currency

-- an entry's place is its line: the offset of its first byte, and how many bytes it has, LF and CR not counted
abbrev pub place_of : ℕ → List ℕ → Place
place_of at line = record { offset = at; length = length line }

-- the entry that a line states, if it states one, whatever lies behind it
abbrev pub stated_at : Account → ℕ × List ℕ → List (ℕ × List ℕ) → Option Entry
stated_at account line behind = entry_in (place_of line.0 (content_of line.1)) (content_of line.1)

-- what a text's opening and closing lines say when they have led to this end
abbrev pub head_of : State → Head
head_of end = record { number = end.number; opening_day = end.opening.day; closing_day = end.closing.day; reached = end.opening.amount.minor; closing = end.closing.amount; count = end.count }

-- a text read as a cash book of an account with this currency and these digits
abbrev pub read_of : List ℕ → List ℕ → ℕ → Result Statement Refused
read_of text code digits = readers.read_of begin_for step_of is_done head_of stated_at text code digits
