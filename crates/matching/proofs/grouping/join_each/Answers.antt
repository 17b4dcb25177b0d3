use Rattle.std.proofs.Common.{◌<◌, length, arith}
use Rattle.matching.proofs.Finds.{pass_some, pass_none}
use Rattle.matching.proofs.grouping.join_each.Goals as goal
use Rattle.matching.proofs.grouping.join_each.Goals.{in-Some, in_default}

pub loop-i-preserved : goal.loop-i-preserved
loop-i-preserved g c =
    let within : c.loop-i.i < length c.loop-i.items = omega arith in
    elim c.match-choose.branch [
      | in-Some w ↦ record {
        few = omega (arith, c.loop-i.invariant.few, w.groups-is);
        passing = λ find finds. pass_some find c.loop-i.i c.args.items.now c.loop-i.items _ _ w.in-Some.j _ _ (c.loop-i.invariant.passing find finds) (finds _ _ _ within w.in-Some.ensures) w.items-is w.join.ensures w.groups-is;
      }
      | in_default w ↦ record {
        few = omega (arith, c.loop-i.invariant.few, w.groups-is);
        passing = λ find finds. pass_none find c.loop-i.i c.args.items.now c.loop-i.items _ _ _ (c.loop-i.invariant.passing find finds) (finds _ _ _ within w.in_default.ensures) w.items-is w.groups-is;
      }
    ]
