-- The sum and the number of the entries that a scan has come by.
use Rattle.std.specs.Prelude.{◌≡◌, ℕ, ◌+◌, ◌≤◌, ℤ, ◌+ℤ◌, Some, None, Option}
use Rattle.domain.specs.declared.entry.Entry.{Entry}
use Rattle.source.specs.declared.Head.{Head}

-- a sum and a number with the entry that a line states, if it states one
abbrev pub sum_with : ℤ → Option Entry → ℤ
sum_with z None = z
sum_with z (Some e) = z +ℤ e.amount.minor

abbrev pub count_with : ℕ → Option Entry → ℕ
count_with n None = n
count_with n (Some e) = n + 1

-- a head whose entries have this sum and number: they lead from its opening to its closing
pub record Closes (z : ℤ) (n : ℕ) (h : Head) : Type 0 where
  pub numbered : (1 ≤ h.number) × (h.number ≤ 99999)
  pub balanced : h.reached +ℤ z ≡ h.closing.minor
  pub counted : h.count ≡ n
  pub few : n ≤ 4096
