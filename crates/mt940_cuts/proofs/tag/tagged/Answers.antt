use Rattle.std.proofs.Common.{arith}
use Rattle.std.proofs.lemmas.Grind.{common_steps}
use Rattle.mt940_cuts.proofs.Codes.{no_code}
use Rattle.mt940_cuts.proofs.tag.tagged.Goals as goal

pub returns-in-58-3-clause-is : goal.returns-in-58-3-clause-is
returns-in-58-3-clause-is c = no_code c.args.line.now (grind (arith, common_steps)) (λ e. grind (arith, common_steps)) (λ e. grind (arith, common_steps))
