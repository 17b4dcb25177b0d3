-- What each line of a cash book leads to: the next state, or the refusal with the smallest number that fits.
use Rattle.std.specs.Prelude.{ℕ, ◌+◌, Bool, true, false, cond, List, pos, ◌+ℤ◌, Some, None, Ok, Err, Option, Result, ◌==◌, nat_lt}
use Rattle.std.specs.Option.{ok_or}
use Rattle.domain.specs.declared.amount.Amount.{Amount}
use Rattle.domain.specs.declared.balance.Balance.{Balance}
use Rattle.domain.specs.declared.currency.Currency.{Currency}
use Rattle.domain.specs.declared.refusal.Refusal.{Refusal}
use Rattle.domain.specs.declared.refusal.Refusal.TheVariants.{Form, Misplaced, NoSuchDay, BadAmount, BadCurrency, BadNumber, Unbalanced, WrongCount, TooMuch}
use Rattle.domain.specs.Accounts.{and_then}
use Rattle.domain.specs.Blanks.{zero_amount, day_zero}
use Rattle.domain.specs.Entries.{same_int}
use Rattle.domain.specs.Limits.{is_number}
use Rattle.domain.specs.References.{same_bytes}
use Rattle.book_lines.specs.declared.line.Closing.{Closing}
use Rattle.book_lines.specs.declared.line.Line.{Line}
use Rattle.book_lines.specs.declared.line.Line.TheVariants.{Opens, Enters, Closes}
use Rattle.book_lines.specs.declared.line.Opening.{Opening}
use Rattle.book_lines.specs.declared.line.Row.{Row}
use Rattle.book_lines.specs.Reading.{line_of}
use Rattle.book.specs.declared.state.Stage.{Stage}
use Rattle.book.specs.declared.state.Stage.TheVariants.{Start, Within, Done}
use Rattle.book.specs.declared.state.State.{State}

abbrev pub is_start : Stage → Bool
is_start Start = true
is_start Within = false
is_start Done = false

abbrev pub is_within : Stage → Bool
is_within Start = false
is_within Within = true
is_within Done = false

abbrev pub is_done : State → Bool
is_done s = elim s.stage [ Start ↦ false | Within ↦ false | Done ↦ true ]

-- no balance yet
abbrev pub blank_balance : Balance
blank_balance = record { day = day_zero; amount = zero_amount }

-- before the first line
abbrev pub begin : Currency → State
begin own = record { currency = own; stage = Start; number = 0; opening = blank_balance; sum = pos 0; count = 0; closing = blank_balance }

-- a test that the line must pass, else it is refused; what follows otherwise
abbrev pub demand : {A : Type 0} → Bool → Refusal → Result A Refusal → Result A Refusal
demand test why next = cond test next (Err why)

-- three capitals, and the account's
abbrev pub is_own : Currency → Option Currency → Bool
is_own own None = false
is_own own (Some c) = same_bytes c.code own.code

-- the states that an opening line, an entry's and a closing line lead to
abbrev pub opened_state : State → Opening → Balance → State
opened_state s o b = record s { stage = Within; number = o.number; opening = b; sum = b.amount.minor; count = 0 }

abbrev pub entered_state : State → Amount → State
entered_state s amount = record s { sum = s.sum +ℤ amount.minor; count = s.count + 1 }

abbrev pub closed_state : State → Balance → State
closed_state s b = record s { stage = Done; closing = b }

abbrev pub opened_of : State → Opening → Result State Refusal
opened_of s o =
    demand (is_start s.stage) Misplaced
    (and_then (ok_or o.day NoSuchDay) (λ day.
    and_then (ok_or o.amount BadAmount) (λ amount.
    demand (is_own s.currency o.currency) BadCurrency
    (demand (is_number o.number) BadNumber
    (Ok (opened_state s o (record { day = day; amount = amount })))))))

abbrev pub entered_of : State → Row → Result State Refusal
entered_of s row =
    demand (is_within s.stage) Misplaced
    (and_then (ok_or row.value_day NoSuchDay) (λ value.
    and_then (ok_or row.entry_day NoSuchDay) (λ day.
    and_then (ok_or row.amount BadAmount) (λ amount.
    demand (nat_lt s.count 4096) TooMuch
    (Ok (entered_state s amount))))))

abbrev pub closed_of : State → Closing → Result State Refusal
closed_of s z =
    demand (is_within s.stage) Misplaced
    (and_then (ok_or z.day NoSuchDay) (λ day.
    and_then (ok_or z.amount BadAmount) (λ amount.
    demand (same_int amount.minor s.sum) Unbalanced
    (demand (z.count == s.count) WrongCount
    (Ok (closed_state s (record { day = day; amount = amount })))))))

abbrev pub judged_of : State → Line → Result State Refusal
judged_of s (Opens o) = opened_of s o
judged_of s (Enters row) = entered_of s row
judged_of s (Closes z) = closed_of s z

-- one line more, without its LF and CR
abbrev pub step_of : State → List ℕ → Result State Refusal
step_of s line = and_then (ok_or (line_of line) Form) (judged_of s)
