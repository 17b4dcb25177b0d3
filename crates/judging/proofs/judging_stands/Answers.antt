use Rattle.judging.proofs.Leasts.{judging_stands}
use Rattle.judging.proofs.judging_stands.Goals as goal

pub returns : goal.returns
returns c = judging_stands
