use Rattle.std.proofs.Common.{arith}
use Rattle.std.proofs.lemmas.Grind.{common_steps}
use Rattle.mt940_cuts.proofs.Slashes.{slashes_are}
use Rattle.mt940_cuts.proofs.cutting.slashes.Goals as goal

pub returns-clause-is : goal.returns-clause-is
returns-clause-is c = slashes_are c.args.bytes.now c.position.result (grind (arith, common_steps))
