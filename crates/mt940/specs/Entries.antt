-- The entries that the lines of a text state.
use Rattle.std.specs.Prelude.{ℕ, ◌+◌, ◌-◌, cond, List, [], ◌∷◌, length, Option}
use Rattle.std.specs.Option.{option_map}
use Rattle.domain.specs.declared.entry.Entry.{Entry}
use Rattle.domain.specs.declared.entry.Place.{Place}
use Rattle.text.specs.Lines.{content_of}
use Rattle.domain.specs.declared.account.Account.{Account}
use Rattle.mt940_cuts.specs.Tags.{is_continuing}
use Rattle.mt940_fields.specs.declared.movement.Movement.{Movement}
use Rattle.mt940_fields.specs.Movements.{stated_in}

-- the offset behind a line, its LF or CR LF not counted
abbrev pub line_end : ℕ × List ℕ → ℕ
line_end line = line.0 + length (content_of line.1)

-- where the lines of an entry end, if those before these end at `end`: behind the last line that goes on with it
abbrev pub end_from : ℕ → List (ℕ × List ℕ) → ℕ
end_from end [] = end
end_from end (l ∷ ls) = cond (is_continuing (content_of l.1)) (end_from (line_end l) ls) end

-- the place of an entry whose first line has these behind it
abbrev pub place_of : ℕ × List ℕ → List (ℕ × List ℕ) → Place
place_of line behind = record { offset = line.0; length = end_from (line_end line) behind - line.0 }

-- the entry of a movement at a place
abbrev pub entry_at : Place → Movement → Entry
entry_at place m = record { value_day = m.value_day; entry_day = m.entry_day; amount = m.amount; kind = m.kind; key = m.key; place = place }

-- the entry that a line states, if it states one, with the lines behind it that go on with it
abbrev pub stated_at : Account → ℕ × List ℕ → List (ℕ × List ℕ) → Option Entry
stated_at account line behind = option_map (entry_at (place_of line behind)) (stated_in account.digits (content_of line.1))
