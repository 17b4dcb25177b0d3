-- How a :61: is cut: it is a value date, perhaps an entry date, a mark, perhaps a capital, an amount, a type and a reference.
use Rattle.std.specs.Prelude.{ℕ, ◌+◌, Bool, cond, ◌&&◌, ◌||◌, List, [], ◌∷◌, take, drop, Some, None, codes, Option, nat_le, slice_index, is_some}
use Rattle.std.specs.Borrow.{Bor}
use Rattle.std.specs.Option.{option_map}
use Rattle.domain.specs.declared.key.Key.{Key}
use Rattle.domain.specs.Currencies.{is_capital}
use Rattle.domain.specs.Makers.{as_key}
use Rattle.fields.specs.Runs.{is_digit, run_length}
use Rattle.mt940_cuts.specs.declared.mark.Mark.{Mark}
use Rattle.mt940_cuts.specs.declared.cutting.Parts.{Parts}
use Rattle.mt940_cuts.specs.Marks.{mark_of}
use Rattle.mt940_cuts.specs.Slices.{starts_with, is_sized, digits_at}

-- a :61: as it is cut: its dates, its mark, the bytes from its amount on, and the key of its reference
pub record Cut : Type 0 where
  pub value_date : List ℕ
  pub entry_date : Option (List ℕ)
  pub mark : Mark
  pub run : List ℕ
  pub key : Key

-- bytes that may be none, and two dates, as the lists of their bytes
abbrev pub shown_date : Option (Bor (List ℕ)) → Option (List ℕ)
shown_date date = option_map (λ d. d.now) date

abbrev pub shown_dates : Bor (List ℕ) × Option (Bor (List ℕ)) → List ℕ × Option (List ℕ)
shown_dates d = (d.0.now, shown_date d.1)

abbrev pub shown : Parts → Cut
shown p = record { value_date = p.value_date.now; entry_date = shown_date p.entry_date; mark = p.mark; run = p.run.now; key = p.key }

-- the value date of six digits, with the entry date of four behind it
abbrev pub with_entry : List ℕ → Option (List ℕ) → Option (List ℕ × Option (List ℕ))
with_entry value_date o = elim o [ None ↦ None | Some entry_date ↦ Some (value_date, Some entry_date) ]

-- the value date of six digits, and the entry date of four behind it, if a digit follows that; none where the dates have not their digits
unfoldable pub dates_of : List ℕ → Option (List ℕ × Option (List ℕ))
dates_of body =
    elim (digits_at 6 body) [ None ↦ None | Some value_date ↦ cond (is_digit (slice_index body 6)) (with_entry value_date (digits_at 4 (drop 6 body))) (Some (value_date, None)) ]

-- a funds code: a capital is one if a digit or a comma follows it
unfoldable pub has_funds : List ℕ → Bool
has_funds bytes = is_capital (slice_index bytes 0) && nat_le 1 (run_length (drop 1 bytes))

-- how many bytes a funds code has
abbrev pub funds_of : List ℕ → ℕ
funds_of bytes = cond (has_funds bytes) 1 0

-- a capital or a digit
abbrev pub is_code : ℕ → Bool
is_code b = is_capital b || is_digit b

-- one of S, N, F at the front
unfoldable pub is_class : List ℕ → Bool
is_class bytes = starts_with bytes (codes "S") || (starts_with bytes (codes "N") || starts_with bytes (codes "F"))

-- a type at the front: one of S, N, F, and three capitals or digits
unfoldable pub is_type : List ℕ → Bool
is_type bytes = is_class bytes && (is_code (slice_index bytes 1) && (is_code (slice_index bytes 2) && is_code (slice_index bytes 3)))

-- where the first two slashes in a row stand, counted from i
abbrev pub slashes_from : ℕ → List ℕ → Option ℕ
slashes_from i [] = None
slashes_from i (b ∷ bs) = cond (starts_with (b ∷ bs) (codes "//")) (Some i) (slashes_from (i + 1) bs)

-- the key of a reference of 1 to 16 bytes
unfoldable pub key_of : List ℕ → Option Key
key_of reference = cond (is_sized 16 reference) (as_key reference) None

-- the key of a reference that runs up to two slashes, with 1 to 16 unread bytes behind them, or to the end
unfoldable pub key_in : List ℕ → Option Key
key_in bytes = elim (slashes_from 0 bytes) [ None ↦ key_of bytes | Some i ↦ cond (is_sized 16 (drop (i + 2) bytes)) (key_of (take i bytes)) None ]

-- the key of the reference behind a type
unfoldable pub details_of : List ℕ → Option Key
details_of bytes = cond (is_type bytes) (key_in (drop 4 bytes)) None

-- where the mark begins
abbrev pub mark_at : Option (List ℕ) → ℕ
mark_at entry_date = cond (is_some entry_date) 10 6

-- the bytes from the amount on, where these stand behind the mark
abbrev pub run_in : List ℕ → List ℕ
run_in bytes = drop (funds_of bytes) bytes

-- the parts of a :61: with the bytes from its amount on
abbrev pub parts_from : List ℕ → Option (List ℕ) → Mark → List ℕ → Option Cut
parts_from value_date entry_date mark run =
    elim (details_of (drop (run_length run) run)) [ None ↦ None | Some k ↦ Some (record { value_date = value_date; entry_date = entry_date; mark = mark; run = run; key = k }) ]

-- the parts of a :61: with the bytes from its mark on
abbrev pub parts_at : List ℕ → Option (List ℕ) → List ℕ → Option Cut
parts_at value_date entry_date marked = elim (mark_of marked) [ None ↦ None | Some p ↦ parts_from value_date entry_date p.0 (run_in (drop p.1 marked)) ]

-- the parts of a :61:, or none where it has not its form
unfoldable pub parts_of : List ℕ → Option Cut
parts_of body = elim (dates_of body) [ None ↦ None | Some d ↦ parts_at d.0 d.1 (drop (mark_at d.1) body) ]
