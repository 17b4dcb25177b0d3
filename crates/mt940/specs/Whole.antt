-- What a text means as a statement, or the refusal with the offset of its line.
use Rattle.std.specs.Prelude.{ℕ, List, Result}
use Rattle.domain.specs.declared.refusal.Refused.{Refused}
use Rattle.source.specs.declared.Head.{Head}
use Rattle.source.specs.Statement.{Statement}
use Rattle.domain.specs.declared.account.Account.{Account}
use Rattle.readers.specs.Whole as readers
use Rattle.mt940_pages.specs.declared.state.State.{State}
use Rattle.mt940_pages.specs.Judging.{begin, is_done, step_of}
use Rattle.mt940.specs.Entries.{stated_at}

abbrev pub begin_for : Account → State
begin_for account = begin account

-- what a text's lines say when they have led to this end
abbrev pub head_of : State → Head
head_of end = record { number = end.at.number; opening_day = end.opening.day; closing_day = end.closing.day; reached = end.opening.amount.minor; closing = end.closing.amount; count = end.count }

-- the statement that a text makes in an account of this currency and these digits, or the refusal and the offset of its line
abbrev pub read_of : List ℕ → List ℕ → ℕ → Result Statement Refused
read_of text code digits = readers.read_of begin_for step_of is_done head_of stated_at text code digits
