use Rattle.std.proofs.Common.{◌≡◌, ◌+◌, ◌*◌, ◌≤◌, length}
use Rattle.report.specs.Lines.{rows_left}
use Rattle.report.specs.Reports.{report_on, together}
use Rattle.report.proofs.subject.Report.length.Given as goal

-- with the lines that are left, what is counted gives the whole
abbrev pub invariant-loop-line : goal.invariant-loop-line
invariant-loop-line l =
    (goal.iterator-loop-line).can_next l.line-iterator
    × (goal.iterator-loop-line).is_finite l.line-iterator
    × (l.length + length (together (rows_left l.line-iterator)) ≡ length (report_on l.self.ledger.now l.self.items.now))
    × (l.length + 128 * length (rows_left l.line-iterator) ≤ 128 * (length l.self.items.now + 5))
