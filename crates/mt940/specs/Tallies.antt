-- The entries that have come when a statement has been read as far as a state.
use Rattle.std.specs.Prelude.{◌≡◌, ℕ, ℤ}
use Rattle.domain.specs.declared.account.Account.{Account}
use Rattle.mt940_pages.specs.declared.state.State.{State}
use Rattle.mt940_pages.specs.Sizes.{Sound}

-- in this account entries of this sum and number have come
pub record Tallies (account : Account) (z : ℤ) (n : ℕ) (s : State) : Type 0 where
  pub digits : s.account.digits ≡ account.digits
  pub moved : s.moved ≡ z
  pub count : s.count ≡ n
  pub sound : Sound s
