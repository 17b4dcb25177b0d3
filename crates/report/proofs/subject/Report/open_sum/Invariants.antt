use Rattle.std.proofs.Common.{◌≡◌, ◌*◌, drop, pos, ◌+ℤ◌, neg_ℤ, ◌≤ℤ◌}
use Rattle.report.specs.Tallies.{open_sum}
use Rattle.report.proofs.subject.Report.open_sum.Given as goal

-- what is left, added to what has been added, gives the whole
abbrev pub invariant-loop-item : goal.invariant-loop-item
invariant-loop-item l =
    (l.sum +ℤ open_sum l.side (drop l.item-index l.self.items.now) ≡ open_sum l.side l.self.items.now)
    × (neg_ℤ (pos (99999999999999 * l.item-index)) ≤ℤ l.sum)
    × (l.sum ≤ℤ pos (99999999999999 * l.item-index))
