-- Digits, the numbers that they write, and runs of digits and commas.
use Rattle.std.specs.Prelude.{ℕ, ◌+◌, ◌-◌, ◌*◌, Bool, cond, ◌&&◌, ◌||◌, List, length, Some, None, Option, ◌==◌, nat_le}
use Rattle.std.specs.Char.{is_ascii_digit}
use Rattle.std.specs.List.{fold, list_all, prefix_len}

abbrev pub is_digit : ℕ → Bool
is_digit b = is_ascii_digit b

abbrev pub all_digits : List ℕ → Bool
all_digits bytes = list_all is_digit bytes

-- 1 to k digits, and nothing else
abbrev pub is_numeral : ℕ → List ℕ → Bool
is_numeral k ds = nat_le 1 (length ds) && (nat_le (length ds) k && all_digits ds)

-- the number that digits write behind the number w
abbrev pub worth_after : ℕ → List ℕ → ℕ
worth_after w ds = fold (λ n d. n * 10 + (d - 48)) w ds

-- the number that digits write, the most significant first
abbrev pub worth : List ℕ → ℕ
worth ds = worth_after 0 ds

-- the number that 1 to k digits write; none where these are not 1 to k digits
unfoldable pub numeral_of : ℕ → List ℕ → Option ℕ
numeral_of k ds = cond (is_numeral k ds) (Some (worth ds)) None

-- a digit or a comma
abbrev pub in_run : ℕ → Bool
in_run b = b == 44 || is_digit b

abbrev pub all_in_run : List ℕ → Bool
all_in_run bytes = list_all in_run bytes

-- how many bytes the longest run of digits and commas at the front has
abbrev pub run_length : List ℕ → ℕ
run_length bytes = prefix_len in_run bytes
