-- What one line more leads to. Each line is judged in ascending order of refusal: form, place, day, amount, currency, number, balance, count.
use Rattle.std.specs.Prelude.{ℕ, ◌+◌, Bool, true, false, cond, ◌&&◌, ◌||◌, List, drop, ℤ, pos, ◌+ℤ◌, Some, None, Ok, Err, Option, Result, ◌==◌, nat_le}
use Rattle.std.specs.Ordering.{int_eq}
use Rattle.domain.specs.declared.account.Account.{Account as Kept}
use Rattle.domain.specs.declared.balance.Balance.{Balance}
use Rattle.domain.specs.declared.refusal.Refusal.{Refusal}
use Rattle.domain.specs.declared.refusal.Refusal.TheVariants.{Form, BadNumber, Unbalanced, TooMuch}
use Rattle.domain.specs.Blanks.{day_zero, zero_amount}
use Rattle.domain.specs.Entries.{same_int}
use Rattle.domain.specs.Limits.{is_number}
use Rattle.text.specs.Lines.{is_formed}
use Rattle.mt940_fields.specs.declared.movement.Movement.{Movement}
use Rattle.mt940_fields.specs.declared.number.PageNumber.{PageNumber}
use Rattle.mt940_cuts.specs.declared.tag.Tag.{Tag}
use Rattle.mt940_cuts.specs.declared.tag.Tag.TheVariants.{Reference, Related, Account, Number, Opening, Entry, Closing, Note, Hyphen, Further}
use Rattle.mt940_cuts.specs.declared.tag.Page.TheVariants.{First, Later}
use Rattle.mt940_cuts.specs.declared.tag.End.TheVariants.{Last, Middle}
use Rattle.mt940_fields.specs.Balances.{balance_cut, balance_of}
use Rattle.mt940_cuts.specs.Cuts.{parts_of}
use Rattle.mt940_fields.specs.Movements.{movement_of}
use Rattle.mt940_fields.specs.Numbers.{numbers_of}
use Rattle.mt940_cuts.specs.Slices.{is_sized}
use Rattle.mt940_cuts.specs.Tags.{tag_of, width_of}
use Rattle.mt940_pages.specs.declared.stage.Stage.{Stage}
use Rattle.mt940_pages.specs.declared.stage.Stage.TheVariants.{Start, Done}
use Rattle.mt940_pages.specs.declared.state.Arrival.{Arrival}
use Rattle.mt940_pages.specs.declared.state.State.{State}
use Rattle.mt940_pages.specs.Stages.{placed}

-- the balance of a statement that has brought none
abbrev pub no_balance : Balance
no_balance = record { day = day_zero; amount = zero_amount }

-- before the first line: no page has come
abbrev pub begin : Kept → State
begin account = record { account = account; stage = Start First; at = record { number = 1; page = 0 }; opening = no_balance; closing = no_balance; moved = pos 0; count = 0 }

-- nothing follows the last page
abbrev pub is_last : Stage → Bool
is_last Done = true
is_last g = false

-- the statement has ended
abbrev pub is_done : State → Bool
is_done s = is_last s.stage

-- the value of a part, or the refusal where it is missing
abbrev pub need : {X Y : Type 0} → Option X → Refusal → (X → Result Y Refusal) → Result Y Refusal
need None why next = Err why
need (Some x) why next = next x

-- what follows a part, unless it is refused
abbrev pub and_then : {X Y : Type 0} → Result X Refusal → (X → Result Y Refusal) → Result Y Refusal
and_then (Ok x) next = next x
and_then (Err why) next = Err why

-- a line that changes the stage alone
abbrev pub staged : State → Stage → State
staged s g = record s { stage = g }

unfoldable pub passed_of : State → Tag → Result State Refusal
passed_of s t = and_then (placed s.stage t) (λ g. Ok (staged s g))

-- :20:, :21: and :25: have up to so many bytes
unfoldable pub named_of : State → Tag → ℕ → List ℕ → Result State Refusal
named_of s t most body = cond (is_sized most body) (passed_of s t) (Err Form)

-- page 1 of a number from 1 to 99,999, or the next page of the same number
unfoldable pub next_page : State → PageNumber → Bool
next_page s next = is_number next.number && (next.page == s.at.page + 1 && (next.page == 1 || next.number == s.at.number))

abbrev pub paged : State → Stage → PageNumber → State
paged s g next = record s { stage = g; at = next }

-- :28C:
unfoldable pub numbered_of : State → List ℕ → Result State Refusal
numbered_of s body =
    need (numbers_of body) Form (λ p.
    and_then (placed s.stage Number) (λ g.
    cond (next_page s p) (Ok (paged s g p)) (Err BadNumber)))

-- a balance that is permitted where it stands, and the stage that it leads to
unfoldable pub arrived_of : State → Tag → List ℕ → Result Arrival Refusal
arrived_of s t body =
    need (balance_cut body) Form (λ p.
    and_then (placed s.stage t) (λ g.
    and_then (balance_of s.account p) (λ b. Ok (record { stage = g; balance = b }))))

-- the statement's opening plus the entries so far
abbrev pub sum_of : State → ℤ
sum_of s = s.opening.amount.minor +ℤ s.moved

abbrev pub opened : State → Arrival → State
opened s a = record s { stage = a.stage; opening = a.balance }

-- :60F: opens the statement
unfoldable pub opened_first : State → List ℕ → Result State Refusal
opened_first s body = and_then (arrived_of s (Opening First) body) (λ a. Ok (opened s a))

-- a balance with the day and the amount of the last closing
abbrev pub repeats : State → Balance → Bool
repeats s b = b.day.number == s.closing.day.number && int_eq b.amount.minor s.closing.amount.minor

-- :60M: repeats the :62M: before
unfoldable pub opened_later : State → List ℕ → Result State Refusal
opened_later s body = and_then (arrived_of s (Opening Later) body) (λ a. cond (repeats s a.balance) (Ok (staged s a.stage)) (Err Unbalanced))

abbrev pub closed : State → Arrival → State
closed s a = record s { stage = a.stage; closing = a.balance }

-- A :62: is the opening plus the entries. Since each :60M: repeats the :62M: before, the statement's opening plus all
-- entries so far is the page's opening plus its own entries.
unfoldable pub closed_of : State → Tag → List ℕ → Result State Refusal
closed_of s t body = and_then (arrived_of s t body) (λ a. cond (same_int a.balance.amount.minor (sum_of s)) (Ok (closed s a)) (Err Unbalanced))

abbrev pub added : State → Stage → Movement → State
added s g m = record s { stage = g; moved = s.moved +ℤ m.amount.minor; count = s.count + 1 }

-- :61:, of which a statement has at most 4,096
unfoldable pub entered_of : State → List ℕ → Result State Refusal
entered_of s body =
    need (parts_of body) Form (λ p.
    and_then (placed s.stage Entry) (λ g.
    and_then (movement_of s.account.digits p) (λ m.
    cond (nat_le 4096 s.count) (Err TooMuch) (Ok (added s g m)))))

-- what stands behind a tag
abbrev pub field_of : State → Tag → List ℕ → Result State Refusal
field_of s Reference body = named_of s Reference 16 body
field_of s Related body = named_of s Related 16 body
field_of s Account body = named_of s Account 35 body
field_of s Number body = numbered_of s body
field_of s (Opening First) body = opened_first s body
field_of s (Opening Later) body = opened_later s body
field_of s Entry body = entered_of s body
field_of s (Closing Last) body = closed_of s (Closing Last) body
field_of s (Closing Middle) body = closed_of s (Closing Middle) body
field_of s Note body = passed_of s Note
field_of s Hyphen body = passed_of s Hyphen
field_of s Further body = passed_of s Further

-- one line more
unfoldable pub step_of : State → List ℕ → Result State Refusal
step_of s line = cond (is_formed line) (need (tag_of line) Form (λ t. field_of s t (drop (width_of t) line))) (Err Form)
