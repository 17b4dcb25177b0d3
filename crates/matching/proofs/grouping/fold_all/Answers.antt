use Rattle.std.proofs.Common.{rules}
use Rattle.matching.proofs.Settles.{none_to_fold_few}
use Rattle.matching.proofs.grouping.fold_all.Goals as goal

pub returns-clause-settled : goal.returns-clause-settled
returns-clause-settled c = none_to_fold_few c.args.items.now _ (search rules)
