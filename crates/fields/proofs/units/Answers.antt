use Rattle.std.proofs.Common.{◌≡◌, arith}
use Rattle.std.proofs.lemmas.Grind.{common_steps}
use Rattle.fields.specs.Units.{units_of}
use Rattle.fields.proofs.Numbers.{reads_units}
use Rattle.fields.proofs.units.Goals as goal

pub returns-in-45-clause-law : goal.returns-in-45-clause-law
unfolding units_of
returns-in-45-clause-law c = let e : c.and_then.result ≡ units_of c.args.bytes.now = grind (arith, common_steps) in reads_units c.args.bytes.now c.and_then.result e

pub returns-in_default-clause-law : goal.returns-in_default-clause-law
unfolding units_of
returns-in_default-clause-law c =
    let e : c.and_then-in_default.result ≡ units_of c.args.bytes.now = grind (arith, common_steps) in reads_units c.args.bytes.now c.and_then-in_default.result e
