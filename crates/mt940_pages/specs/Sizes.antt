-- What holds of a reader's state at every line.
use Rattle.std.specs.Prelude.{◌≡◌, ◌*◌, ◌≤◌, Bool, true, false, pos, neg_ℤ, ◌≤ℤ◌}
use Rattle.mt940_pages.specs.declared.stage.Stage.{Stage}
use Rattle.mt940_pages.specs.declared.stage.Stage.TheVariants.{Closed, Remark, Done}
use Rattle.mt940_pages.specs.declared.state.State.{State}
use Rattle.mt940_pages.specs.Judging.{sum_of}

-- the page has closed
abbrev pub is_closed : Stage → Bool
is_closed (Closed end) = true
is_closed (Remark end more) = true
is_closed Done = true
is_closed g = false

-- sums stay small, the number is one, and once a page has closed its closing is the opening plus the entries
pub record Sound (s : State) : Type 0 where
  pub few : s.count ≤ 4096
  pub low : neg_ℤ (pos (99999999999999 * s.count)) ≤ℤ s.moved
  pub high : s.moved ≤ℤ pos (99999999999999 * s.count)
  pub numbered : (1 ≤ s.at.number) × (s.at.number ≤ 99999)
  pub balanced : is_closed s.stage ≡ true → s.closing.amount.minor ≡ sum_of s
