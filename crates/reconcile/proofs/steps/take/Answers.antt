use Rattle.reconcile.specs.Steps.{taken_by}
use Rattle.reconcile.proofs.Handing.{handed_ok, handed_err}
use Rattle.reconcile.proofs.steps.take.Goals as goal

pub returns-in_err-take : goal.returns-in_err-take
unfolding taken_by
returns-in_err-take g c = handed_err _ _ _ _ c.args.table.now _ _ _ c.in_err-take.ensures.answer c.from_residual.ensures.1

pub returns : goal.returns
unfolding taken_by
returns g c = handed_ok _ _ _ _ _ _ _ c.in_ok-take.ensures.answer c.in_ok-take.ensures.table
