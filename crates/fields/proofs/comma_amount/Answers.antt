use Rattle.std.proofs.Common.{arith}
use Rattle.std.proofs.lemmas.Grind.{common_steps}
use Rattle.fields.specs.Commas.{comma_amount}
use Rattle.fields.proofs.Begun.{reads_amount, taken_ok}
use Rattle.fields.proofs.comma_amount.Goals as goal

pub returns-clause-taken : goal.returns-clause-taken
unfolding comma_amount
returns-clause-taken c = taken_ok c.args.digits c.args.bytes.now c.in_ok-amount.amount c.run_length-length.result (grind (arith, common_steps))

pub returns-in_err-amount-clause-law : goal.returns-in_err-amount-clause-law
unfolding comma_amount
returns-in_err-amount-clause-law c = reads_amount c.args.digits c.args.bytes.now c.from_residual-in_err-amount.result (grind (arith, common_steps))
