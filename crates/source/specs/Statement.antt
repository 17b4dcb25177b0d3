-- What a source of entries means, whatever the format that carries them.
use Rattle.std.specs.Prelude.{◌≡◌, ℕ, ◌≤◌, List, [], ◌∷◌, length, ℤ, pos, ◌+ℤ◌, Some, None, Option}
use Rattle.domain.specs.declared.amount.Amount.{Amount}
use Rattle.domain.specs.declared.day.Day.{Day}
use Rattle.domain.specs.declared.entry.Entry.{Entry}
use Rattle.source.specs.declared.Head.{Head}

-- a statement, or what is left of it: the balance reached, and the entries that remain
pub record Statement : Type 0 where
  pub number : ℕ
  pub opening_day : Day
  pub closing_day : Day
  pub reached : ℤ
  pub remaining : List Entry
  pub closing : Amount

-- the amounts of entries, added
abbrev pub total : List Entry → ℤ
total [] = pos 0
total (e ∷ es) = e.amount.minor +ℤ total es

abbrev pub first : List Entry → Option Entry
first [] = None
first (e ∷ es) = Some e

abbrev pub rest : List Entry → List Entry
rest [] = []
rest (e ∷ es) = es

-- a balance with the amount of the first entry added
abbrev pub onward : List Entry → ℤ → ℤ
onward [] z = z
onward (e ∷ es) z = z +ℤ e.amount.minor

abbrev pub first_of : Statement → Option Entry
first_of s = first s.remaining

-- the statement with its first entry gone, and that entry's amount in the balance
abbrev pub moved : Statement → Statement
moved s = record { number = s.number; opening_day = s.opening_day; closing_day = s.closing_day; reached = onward s.remaining s.reached; remaining = rest s.remaining; closing = s.closing }

-- what a head says of a statement: all but the entries, and how many remain
pub record HeadOf (s : Statement) (h : Head) : Type 0 where
  pub number : h.number ≡ s.number
  pub opening_day : h.opening_day ≡ s.opening_day
  pub closing_day : h.closing_day ≡ s.closing_day
  pub reached : h.reached ≡ s.reached
  pub closing : h.closing ≡ s.closing
  pub count : h.count ≡ length s.remaining

-- the law of a source: the balance reached and the remaining amounts lead to the closing
pub record Lawful (s : Statement) : Type 0 where
  pub numbered : (1 ≤ s.number) × (s.number ≤ 99999)
  pub balanced : s.reached +ℤ total s.remaining ≡ s.closing.minor
  pub few : length s.remaining ≤ 4096
