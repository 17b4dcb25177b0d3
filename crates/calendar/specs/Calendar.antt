-- The calendar from 1 January 1980, day 0, to 31 December 2079, day 36,524. Months are counted from January 1980, which is 0.
use Rattle.std.specs.Prelude.{ℕ, zero, suc, ◌+◌, ◌-◌, ◌*◌, ◌/◌, ◌%◌, Bool, cond, ◌&&◌, ◌||◌, Some, None, Option, ◌==◌, nat_le}

-- the days of a month, 1 to 12, of a year; February has 29 when the year divides by 4
abbrev pub days_in : ℕ → ℕ → ℕ
days_in year month =
    cond (month == 2) (cond (year % 4 == 0) 29 28)
    (cond (month == 4 || (month == 6 || (month == 9 || month == 11))) 30 31)

-- the length of the month k
abbrev pub length_of : ℕ → ℕ
length_of k = days_in (1980 + k / 12) (k % 12 + 1)

-- the first day of the month k: each month begins its predecessor's length later
unfoldable pub first_of : ℕ → ℕ
first_of zero = 0
first_of (suc k) = first_of k + length_of k

-- two-digit years: 80 to 99 are 1980 to 1999, 00 to 79 are 2000 to 2079
abbrev pub year_of : ℕ → ℕ
year_of yy = cond (nat_le 80 yy) (1900 + yy) (2000 + yy)

abbrev pub is_day : ℕ → ℕ → ℕ → Bool
is_day yy mm dd = nat_le yy 99 && (nat_le 1 mm && (nat_le mm 12 && (nat_le 1 dd && nat_le dd (days_in (year_of yy) mm))))

-- the month of a two-digit year and a month from 1 to 12
abbrev pub month_in : ℕ → ℕ → ℕ
month_in yy mm = 12 * (year_of yy - 1980) + (mm - 1)

-- the number of the day that a two-digit year, a month and a day of the month name; none where there is no such day
abbrev pub day_of : ℕ → ℕ → ℕ → Option ℕ
day_of yy mm dd = cond (is_day yy mm dd) (Some (first_of (month_in yy mm) + (dd - 1))) None

-- the last month up to k that begins on the day n or before it
abbrev pub month_by : ℕ → ℕ → ℕ
month_by zero n = 0
month_by (suc k) n = cond (nat_le (first_of (suc k)) n) (suc k) (month_by k n)

-- the month in which the day n lies
unfoldable pub month_of : ℕ → ℕ
month_of n = month_by 1199 n
