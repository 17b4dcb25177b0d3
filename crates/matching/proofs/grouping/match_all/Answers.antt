use Rattle.std.proofs.Common.{rules}
use Rattle.matching.proofs.Settles.{none_to_pair_few}
use Rattle.matching.proofs.grouping.match_all.Goals as goal

pub returns-clause-settled : goal.returns-clause-settled
returns-clause-settled g c = none_to_pair_few (g.R.MatchRule.permits c.args.rule.now) c.args.items.now _ (search rules)
