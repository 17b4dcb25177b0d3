-- Dates as texts write them: YYMMDD and MMDD.
use Rattle.std.specs.Prelude.{◌≡◌, ℕ, ◌+◌, ◌-◌, ◌*◌, ◌/◌, ◌%◌, Bool, cond, ◌&&◌, List, [], ◌∷◌, ◌++◌, length, take, Some, None, codes, Option, ◌==◌, slice_index}
use Rattle.std.specs.Option.{option_and_then, option_map}
use Rattle.domain.specs.declared.day.Day.{Day}
use Rattle.domain.specs.Makers.{as_day}
use Rattle.fields.specs.Runs.{all_digits}
use Rattle.calendar.specs.Calendar.{first_of, day_of, month_of}

-- the number that the two digits at i write
abbrev pub two_at : List ℕ → ℕ → ℕ
two_at date i = (slice_index date i - 48) * 10 + (slice_index date (i + 1) - 48)

abbrev pub numbered : Option ℕ → Option Day
numbered number = option_and_then as_day number

-- six digits, and nothing else
abbrev pub is_date : List ℕ → Bool
is_date date = length date == 6 && all_digits date

-- the day of a date YYMMDD: exactly six digits that name a day
unfoldable pub day_in : List ℕ → Option Day
day_in date = cond (is_date date) (numbered (day_of (two_at date 0) (two_at date 2) (two_at date 4))) None

-- the day of MMDD in the year of the value date YYMMDD; none where MMDD is not four digits or there is no such day
unfoldable pub entry_day_of : List ℕ → List ℕ → Option Day
entry_day_of value_date month_day = cond (length month_day == 4) (day_in (take 2 value_date ++ month_day)) None

-- two digits of a number below 100
abbrev pub two : ℕ → List ℕ
two n = (48 + n / 10) ∷ (48 + n % 10) ∷ []

-- the date YYMMDD of the day n, which lies in the month k
abbrev pub date_by : ℕ → ℕ → List ℕ
date_by k n = two ((1980 + k / 12) % 100) ++ (two (k % 12 + 1) ++ two (n - first_of k + 1))

-- the date YYMMDD of the day n
unfoldable pub date_text : ℕ → List ℕ
date_text n = date_by (month_of n) n

-- a day, in plain numbers
abbrev pub day_number : Option Day → Option ℕ
day_number day = option_map (λ d. d.number) day

-- the worked figures; a day's date has six bytes; and each day has one date, each date one day
pub record Stands : Type 0 where
  pub last : day_number (day_in (codes "791231")) ≡ Some 36524
  pub leap : day_number (day_in (codes "240229")) ≡ Some 16130
  pub back : (d : Day) → day_in (date_text d.number) ≡ Some d
  pub six : (n : ℕ) → length (date_text n) ≡ 6
  pub forth : (date : List ℕ) (d : Day) → day_in date ≡ Some d → date_text d.number ≡ date
