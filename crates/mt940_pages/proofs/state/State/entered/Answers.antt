use Rattle.std.proofs.Common.{◌≡◌, ◌+ℤ◌, arith, rules, w64, to_z, of_z}
use Rattle.std.proofs.lemmas.Int.{ints}
use Rattle.mt940_pages.specs.Judging.{entered_of}
use Rattle.mt940_pages.proofs.state.State.entered.Goals as goal

pub overflow_add-result : goal.overflow_add-result
overflow_add-result c = let a = c.in_ok-movement.movement.amount in omega (arith, ints, c.minor.ensures, a.within.0, a.within.1, c.requires.low, c.requires.high)

pub returns : goal.returns
unfolding entered_of
returns c =
    let a = c.in_ok-movement.movement.amount in
    let sum : to_z w64 (of_z w64 (to_z w64 (of_z w64 c.args.self.moved) +ℤ to_z w64 (of_z w64 c.minor.result))) ≡ c.args.self.moved +ℤ a.minor = omega (arith, ints, c.minor.ensures, a.within.0, a.within.1, c.requires.low, c.requires.high) in
    rw sum (search rules)
