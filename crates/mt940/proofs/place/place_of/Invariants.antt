use Rattle.std.proofs.Common.{◌≡◌, ◌≤◌, ◌<◌}
use Rattle.std.specs.List.{AllByRecursion}
use Rattle.text.specs.Left.{lines_left, shown}
use Rattle.readers.specs.declared.passage.TheConstants.{LONGEST}
use Rattle.readers.specs.Within.{Within}
use Rattle.mt940.specs.Entries.{end_from, line_end}
use Rattle.mt940.proofs.place.place_of.Given as goal

abbrev pub invariant-loop-next : goal.invariant-loop-next
invariant-loop-next l =
    (end_from l.end (lines_left l.next-iterator) ≡ end_from (line_end (shown l.line)) (lines_left l.passage.behind))
    × (l.line.at ≤ l.end)
    × (l.end < LONGEST)
    × Within LONGEST (lines_left l.next-iterator)
    × AllByRecursion (λ m. l.line.at ≤ m.0) (lines_left l.next-iterator)
