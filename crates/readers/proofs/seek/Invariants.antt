use Rattle.std.proofs.Common.{◌≡◌, length}
use Rattle.text.specs.Left.{lines_left}
use Rattle.readers.specs.declared.passage.TheConstants.{LONGEST}
use Rattle.readers.specs.Entries.{entries_of}
use Rattle.readers.specs.Within.{Within}
use Rattle.readers.proofs.seek.Given as goal

abbrev pub invariant-loop-line : goal.invariant-loop-line
invariant-loop-line g l =
    (entries_of (g.F.Format.stated l.account) (lines_left l.behind) ≡ entries_of (g.F.Format.stated l.account) (lines_left l.initial.behind))
    × Within LONGEST (lines_left l.behind)

abbrev pub decreases-loop-line : goal.decreases-loop-line
decreases-loop-line g l = length (lines_left l.behind)
