use Rattle.report.specs.Lines.{rows_left}
use Rattle.report.specs.Reports.{report_on, together}
use Rattle.report.proofs.Behind.{Written}
use Rattle.report.proofs.subject.Report.put.Given as goal

-- what is written so far, with the lines that are left behind it, gives the whole
abbrev pub invariant-loop-line : goal.invariant-loop-line
invariant-loop-line l =
    (goal.iterator-loop-line).can_next l.line-iterator
    × (goal.iterator-loop-line).is_finite l.line-iterator
    × Written (report_on l.self.ledger.now l.self.items.now) (together (rows_left l.line-iterator)) l.initial.out l.out l.at
