-- Amounts with a decimal comma.
use Rattle.std.specs.Prelude.{◌≡◌, ℕ, ◌+◌, ◌-◌, ◌*◌, ◌^◌, ◌≤◌, Bool, cond, ◌&&◌, List, length, ℤ, pos, ◌≤ℤ◌, Some, None, codes, Option, ◌==◌, nat_le}
use Rattle.domain.specs.declared.amount.Amount.{Amount}
use Rattle.domain.specs.declared.digits.Digits.{Digits}
use Rattle.domain.specs.declared.digits.Digits.TheVariants.{Two}
use Rattle.domain.specs.Accounts.{digit_count}
use Rattle.domain.specs.Makers.{as_amount}
use Rattle.std.specs.List.{count_by, before_first, after_first, take_while}
use Rattle.std.specs.Option.{option_map, option_and_then}
use Rattle.fields.specs.Runs.{worth, in_run, run_length}

-- the longest run of digits and commas at the front
abbrev pub run_of : List ℕ → List ℕ
run_of bytes = take_while in_run bytes

-- 44 is a comma
abbrev pub is_comma : ℕ → Bool
is_comma b = b == 44

-- how many commas there are
abbrev pub commas : List ℕ → ℕ
commas bytes = count_by is_comma bytes

-- the bytes before the first comma, and those behind it
abbrev pub before : List ℕ → List ℕ
before bytes = before_first is_comma bytes

abbrev pub behind : List ℕ → List ℕ
behind bytes = after_first is_comma bytes

-- 2 to 15 bytes, one comma, at least one digit before it, at most d digits behind it
abbrev pub is_formed : ℕ → List ℕ → Bool
is_formed d run = nat_le 2 (length run) && (nat_le (length run) 15 && (commas run == 1 && (nat_le 1 (length (before run)) && nat_le (length (behind run)) d)))

-- the minor units of a run in an account of d digits: those behind the comma scaled up to d digits
abbrev pub minor_of : ℕ → List ℕ → ℕ
minor_of d run = worth (before run) * 10 ^ d + worth (behind run) * 10 ^ (d - length (behind run))

-- the minor units of a run where it is formed so
abbrev pub minor_in : ℕ → List ℕ → Option ℕ
minor_in d run = cond (is_formed d run) (Some (minor_of d run)) None

-- an amount with the number of bytes read
abbrev pub with_length : ℕ → Option Amount → Option (Amount × ℕ)
with_length n amount = option_map (λ a. (a, n)) amount

-- the amount at the front of a text, and the number of bytes read; none where the run is not formed so, or it is too large for an amount
unfoldable pub comma_amount : Digits → List ℕ → Option (Amount × ℕ)
comma_amount digits bytes = with_length (run_length bytes) (option_and_then (λ n. as_amount (pos n)) (minor_in (digit_count digits) (run_of bytes)))

-- what was read is the whole run, of at most 15 bytes, and not below zero
pub record Taken (bytes : List ℕ) (a : Amount) (n : ℕ) : Type 0 where
  pub run : n ≡ run_length bytes
  pub few : n ≤ 15
  pub least : pos 0 ≤ℤ a.minor

-- an amount that was read, in plain numbers
abbrev pub figure : Option (Amount × ℕ) → Option (ℤ × ℕ)
figure read = option_map (λ p. (p.0.minor, p.1)) read

abbrev pub reads : List ℕ → Option (ℤ × ℕ)
reads bytes = figure (comma_amount Two bytes)

-- the worked figures, in an account of two digits
pub record Figures : Type 0 where
  pub comma : reads (codes "1250,") ≡ Some (pos 125000, 5)
  pub one : reads (codes "1250,5") ≡ Some (pos 125050, 6)
  pub three : reads (codes "1250,505") ≡ None
  pub bare : reads (codes ",50") ≡ None
  pub whole : reads (codes "1250") ≡ None
  pub most : reads (codes "999999999999,99") ≡ Some (pos 99999999999999, 15)
  pub beyond : reads (codes "1000000000000,") ≡ None
