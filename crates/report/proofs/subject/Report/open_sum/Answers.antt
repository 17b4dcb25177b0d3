use Rattle.std.proofs.Common.{sym, ◌∙◌, arith}
use Rattle.std.proofs.lemmas.Int.{ints}
use Rattle.report.proofs.Tallying.{sum_open, sum_closed}
use Rattle.report.proofs.subject.Report.open_sum.Goals.{then-is_open_on, else-is_open_on}
use Rattle.report.proofs.subject.Report.open_sum.Goals as goal

pub loop-item-preserved : goal.loop-item-preserved
loop-item-preserved c =
    let s = c.args.side in
    let xs = c.args.self.now.items.now in
    let i = c.loop-item.item-index in
    let x = c.item-item.result in
    let w = x.entry.amount.within in
    elim c.if-is_open_on.branch [
      | then-is_open_on b ↦
          let e = sum_open s xs i x c.loop-item-test.true c.item-item.is (sym c.is_open_on.ensures ∙ b.if-is_open_on.true) in
          (omega (arith, ints), omega (arith, ints), omega (arith, ints))
      | else-is_open_on b ↦
          let e = sum_closed s xs i x c.loop-item-test.true c.item-item.is (sym c.is_open_on.ensures ∙ b.if-is_open_on.false) in
          (omega (arith, ints), omega (arith, ints), omega (arith, ints))
    ]
