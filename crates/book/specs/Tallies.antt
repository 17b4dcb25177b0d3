-- The entries that have come when a cash book has been read as far as a state.
use Rattle.std.specs.Prelude.{◌≡◌, ℕ, ◌≤◌, true, false, ℤ, pos, ◌+ℤ◌}
use Rattle.domain.specs.Limits.{is_number}
use Rattle.book.specs.declared.state.State.{State}
use Rattle.book.specs.Judging.{is_start, is_done}

-- entries of this sum and number have come
pub record Tallies (z : ℤ) (n : ℕ) (s : State) : Type 0 where
  pub summed : s.sum ≡ s.opening.amount.minor +ℤ z
  pub counted : s.count ≡ n
  pub few : n ≤ 4096
  pub started : is_start s.stage ≡ true → (z ≡ pos 0) × (n ≡ 0)
  pub numbered : is_start s.stage ≡ false → is_number s.number ≡ true
  pub closed : is_done s ≡ true → s.closing.amount.minor ≡ s.sum
