use Rattle.std.proofs.Common.{rules}
use Rattle.matching.specs.Folding.{undoes}
use Rattle.matching.proofs.Finds.{highest_found}
use Rattle.matching.proofs.grouping.highest_undone.Goals as goal

pub returns : goal.returns
returns c = highest_found (undoes c.args.reversal.now) c.args.items.now _ (λ e k lt. search rules) (λ i e. (search rules, search rules, λ k a b. search rules))
