use Rattle.std.proofs.Common.{rules}
use Rattle.book.proofs.Sums.{step_sound}
use Rattle.book.proofs.state.StateReading.step.Goals as goal

pub returns-clause-again : goal.returns-clause-again
returns-clause-again c = step_sound c.args.self c.args.line.now _ c.requires (search rules)
