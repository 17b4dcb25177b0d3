-- What numbers and amounts are as texts write them, with no reading order.
use Rattle.std.specs.Prelude.{◌≡◌, ℕ, ◌+◌, ◌-◌, ◌*◌, ◌^◌, ◌≤◌, true, false, ◌⊎◌, List, [], ◌∷◌, ◌++◌, length, pos, neg_ℤ, Some, None, Ok, Err, Option, Result}
use Rattle.domain.specs.declared.amount.Amount.{Amount}
use Rattle.domain.specs.declared.digits.Digits.{Digits}
use Rattle.domain.specs.declared.refusal.Refusal.{Refusal}
use Rattle.domain.specs.Accounts.{digit_count}
use Rattle.fields.specs.Runs.{all_digits, in_run}

-- the number that digits write: each stands for itself times ten to the digits behind it
abbrev pub place_value : List ℕ → ℕ
place_value [] = 0
place_value (d ∷ ds) = (d - 48) * 10 ^ length ds + place_value ds

-- 1 to k digits that write the number n
pub record Writes (k : ℕ) (text : List ℕ) (n : ℕ) : Type 0 where
  pub each : all_digits text ≡ true
  pub some : 1 ≤ length text
  pub few : length text ≤ k
  pub value : n ≡ place_value text

-- a number is read exactly where the text writes one of 1 to k digits
abbrev pub ReadsNumber : ℕ → List ℕ → Option ℕ → Type 0
ReadsNumber k text (Some n) = Writes k text n
ReadsNumber k text None = (n : ℕ) → Writes k text n → ⊥

-- an amount in minor units: 1 to 14 digits, or a minus (45) and 1 to 14 digits that are not all zeros
pub record Units (text : List ℕ) (a : Amount) : Type 0 where
  pub digits : List ℕ
  pub size : ℕ
  pub number : Writes 14 digits size
  pub sign : ((text ≡ digits) × (a.minor ≡ pos size)) ⊎ ((text ≡ 45 ∷ digits) × (1 ≤ size) × (a.minor ≡ neg_ℤ (pos size)))

abbrev pub ReadsUnits : List ℕ → Option Amount → Type 0
ReadsUnits text (Some a) = Units text a
ReadsUnits text None = (a : Amount) → Units text a → ⊥

-- the next byte, if there is one, is neither digit nor comma
abbrev pub Ends : List ℕ → Type 0
Ends [] = Unit {0}
Ends (b ∷ bs) = in_run b ≡ false

-- a text that begins with an amount of n bytes, in an account of so many digits: digits, a comma (44), digits, and then something that goes on with neither
pub record Begins (digits : Digits) (text : List ℕ) (a : Amount) (n : ℕ) : Type 0 where
  pub before : List ℕ
  pub behind : List ℕ
  pub rest : List ℕ
  pub is : text ≡ before ++ 44 ∷ (behind ++ rest)
  pub whole : all_digits before ≡ true
  pub part : all_digits behind ≡ true
  pub ends : Ends rest
  pub some : 1 ≤ length before
  pub few : length behind ≤ digit_count digits
  pub short : length before + (1 + length behind) ≤ 15
  -- the digits before the comma times ten to the account's digits, plus those behind it, scaled
  pub value : a.minor ≡ pos (place_value before * 10 ^ digit_count digits + place_value behind * 10 ^ (digit_count digits - length behind))
  pub read : n ≡ length before + (1 + length behind)

-- an amount is read exactly where a text begins with one, with that value and that many bytes
abbrev pub ReadsAmount : Digits → List ℕ → Result (Amount × ℕ) Refusal → Type 0
ReadsAmount digits text (Ok p) = Begins digits text p.0 p.1
ReadsAmount digits text (Err why) = (a : Amount) (n : ℕ) → Begins digits text a n → ⊥
