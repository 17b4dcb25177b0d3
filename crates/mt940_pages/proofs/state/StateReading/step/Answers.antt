use Rattle.std.proofs.Common.{IfOk, Result, sym, subst}
use Rattle.domain.specs.declared.refusal.Refusal.{Refusal}
use Rattle.mt940_pages.specs.declared.state.State.{State}
use Rattle.mt940_pages.specs.Sizes.{Sound}
use Rattle.mt940_pages.proofs.Goings.{field_sound}
use Rattle.mt940_pages.proofs.state.StateReading.step.Goals as goal

pub returns-clause-again : goal.returns-clause-again
returns-clause-again c = subst (λ (r : Result State Refusal). IfOk r Sound) (sym c.field.ensures) (field_sound c.args.self _ _ c.requires)
