-- What the two match rules permit, the bank's entry first.
use Rattle.std.specs.Prelude.{ℕ, ◌+◌, ◌-◌, Bool, cond, not, ◌&&◌, Some, None, Option, nat_le}
use Rattle.domain.specs.declared.entry.Entry.{Entry}
use Rattle.domain.specs.Entries.{same_int}
use Rattle.domain.specs.Keys.{is_blank_key, same_key}
use Rattle.matching.specs.declared.rule.ByDays.{ByDays}

abbrev pub same_amount : Entry → Entry → Bool
same_amount a b = same_int a.amount.minor b.amount.minor

-- keys equal and not blank, amounts equal
abbrev pub by_reference : Entry → Entry → Bool
by_reference a b = not (is_blank_key a.key) && (same_key a.key b.key && same_amount a b)

-- how far two numbers lie apart, whichever is the larger
abbrev pub apart : ℕ → ℕ → ℕ
apart m n = (m - n) + (n - m)

-- value days at most `width` apart, amounts equal
abbrev pub by_days : ℕ → Entry → Entry → Bool
by_days width a b = nat_le (apart a.value_day.number b.value_day.number) width && same_amount a b

-- a width runs from 0 to 31
abbrev pub as_by_days : ℕ → Option ByDays
as_by_days w = cond (nat_le w 31) (Some (record { width = w })) None
