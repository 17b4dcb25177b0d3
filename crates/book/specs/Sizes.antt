-- What keeps the sums of the code inside their types.
use Rattle.std.specs.Prelude.{◌+◌, ◌*◌, ◌≤◌, pos, neg_ℤ, ◌≤ℤ◌}
use Rattle.book.specs.declared.state.State.{State}

-- the opening and the entries, each at most the largest amount away from nought
pub record Sound (s : State) : Type 0 where
  pub few : s.count ≤ 4096
  pub low : neg_ℤ (pos (99999999999999 * (s.count + 1))) ≤ℤ s.sum
  pub high : s.sum ≤ℤ pos (99999999999999 * (s.count + 1))
