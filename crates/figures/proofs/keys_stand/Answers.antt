use Rattle.figures.proofs.References.{keys_stand}
use Rattle.figures.proofs.keys_stand.Goals as goal

pub returns : goal.returns
returns c = keys_stand
