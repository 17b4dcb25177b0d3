use Rattle.std.proofs.Common.{rules}
use Rattle.book.proofs.Sums.{added}
use Rattle.book.proofs.state.State.entered.Goals as goal

pub returns : goal.returns
returns c = let e = added c.args.self c.in_ok-amount.amount _ c.requires c.minor.ensures in rw e (search rules)
