use Rattle.std.proofs.Common.{◌≤◌}
use Rattle.matching.specs.Grouping.{Finder, FindsBy}
use Rattle.matching.proofs.Finds.{Passing}
use Rattle.matching.proofs.grouping.join_each.Given as goal

-- whatever way of finding the closure answers by
abbrev pub invariant-loop-i : goal.invariant-loop-i
invariant-loop-i g l =
    record { few : l.groups ≤ l.i; passing : (find : Finder) → FindsBy find (goal.F-post g l.choose) → Passing find l.i l.initial.items l.items l.groups }
