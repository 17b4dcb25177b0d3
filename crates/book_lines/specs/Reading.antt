-- What a line of a cash book states, and the entry in it.
use Rattle.std.specs.Prelude.{ℕ, cond, ◌&&◌, List, [], ◌∷◌, Some, None, codes, Option}
use Rattle.std.specs.Option.{option_map}
use Rattle.domain.specs.declared.amount.Amount.{Amount}
use Rattle.domain.specs.declared.day.Day.{Day}
use Rattle.domain.specs.declared.entry.Entry.{Entry}
use Rattle.domain.specs.declared.entry.Kind.{Kind}
use Rattle.domain.specs.declared.entry.Kind.TheVariants.{Ordinary, Reversal}
use Rattle.domain.specs.declared.entry.Place.{Place}
use Rattle.domain.specs.Makers.{as_currency, as_key}
use Rattle.domain.specs.References.{same_bytes}
use Rattle.fields.specs.Runs.{numeral_of}
use Rattle.fields.specs.Units.{units_of}
use Rattle.calendar.specs.Dates.{day_in, is_date}
use Rattle.text.specs.Lines.{is_formed}
use Rattle.book_lines.specs.declared.line.Line.{Line}
use Rattle.book_lines.specs.declared.line.Line.TheVariants.{Opens, Enters, Closes}
use Rattle.book_lines.specs.Fields.{fields_of}

-- a number, a day and an amount, with which the lines of an opening and of a closing end
abbrev pub balance_of : List (List ℕ) → Option (ℕ × Option Day × Option Amount)
balance_of (number ∷ day ∷ amount ∷ []) = cond (is_date day) (option_map (λ n. (n, day_in day, units_of amount)) (numeral_of 5 number)) None
balance_of _ = None

-- currency, number, opening day, opening
abbrev pub opening_of : List (List ℕ) → Option Line
opening_of [] = None
opening_of (currency ∷ fs) = option_map (λ b. Opens (record { currency = as_currency currency; number = b.0; day = b.1; amount = b.2 })) (balance_of fs)

-- value day, entry day, amount, reference, and a text that is not read
abbrev pub row_of : Kind → List (List ℕ) → Option Line
row_of kind (value ∷ day ∷ amount ∷ reference ∷ text ∷ []) =
    cond (is_date value && is_date day)
    (option_map (λ key. Enters (record { kind = kind; value_day = day_in value; entry_day = day_in day; amount = units_of amount; key = key })) (as_key reference))
    None
row_of kind _ = None

-- count of entries, closing day, closing
abbrev pub closing_of : List (List ℕ) → Option Line
closing_of fs = option_map (λ b. Closes (record { count = b.0; day = b.1; amount = b.2 })) (balance_of fs)

-- what the fields behind a tag state: B, E, R or Z
abbrev pub tagged_of : List ℕ → List (List ℕ) → Option Line
tagged_of tag fs =
    cond (same_bytes tag (codes "B")) (opening_of fs)
    (cond (same_bytes tag (codes "E")) (row_of Ordinary fs)
    (cond (same_bytes tag (codes "R")) (row_of Reversal fs)
    (cond (same_bytes tag (codes "Z")) (closing_of fs)
    None)))

-- the tag is the first field
abbrev pub stated_of : List (List ℕ) → Option Line
stated_of [] = None
stated_of (tag ∷ fs) = tagged_of tag fs

-- what a line states, given without its LF and CR; none where it has not its form
unfoldable pub line_of : List ℕ → Option Line
line_of line = cond (is_formed line) (stated_of (fields_of line)) None

-- the entry that a line states; none where it states no entry, or one with no such day or no amount
abbrev pub entry_of : Place → Line → Option Entry
entry_of place (Opens o) = None
entry_of place (Enters row) =
    elim row.value_day [
      | None ↦ None
      | Some value ↦ elim row.entry_day [
        | None ↦ None
        | Some day ↦ elim row.amount [
          | None ↦ None
          | Some amount ↦ Some (record { value_day = value; entry_day = day; amount = amount; kind = row.kind; key = row.key; place = place })
        ]
      ]
    ]
entry_of place (Closes z) = None

abbrev pub entry_by : Place → Option Line → Option Entry
entry_by place None = None
entry_by place (Some line) = entry_of place line

-- the entry in a line that stands at this place
abbrev pub entry_in : Place → List ℕ → Option Entry
entry_in place line = entry_by place (line_of line)
