use Rattle.std.proofs.Common.{ap}
use Rattle.report.specs.Reports.{together}
use Rattle.report.proofs.Behind.{written_more}
use Rattle.report.proofs.subject.Report.put.Goals as goal

pub loop-line-preserved : goal.loop-line-preserved
loop-line-preserved c =
    (tt, tt, written_more _ _ _ _ _ _ _ _ _ (ap together c.in-Some.ensures.steps) c.loop-line.invariant.2 c.put-at.ensures.len c.put-at.ensures.is)
