use Rattle.std.proofs.Common.{◌≡◌, ◌+◌, ◌<◌, length, set, sym, ap, ◌∙◌, arith}
use Rattle.domain.specs.declared.entry.Item.{Item}
use Rattle.domain.specs.declared.entry.Side.{Side}
use Rattle.domain.specs.Items.{outstanding_item}
use Rattle.ledger.specs.Takings.{spent}
use Rattle.ledger.proofs.Laying.{fetched, laid_all, laid_more, none_left}
use Rattle.ledger.proofs.taking.lay.Goals as goal
use Rattle.ledger.proofs.taking.lay.Goals.{in-Some, in_default}

pub loop-position-preserved : goal.loop-position-preserved
loop-position-preserved g c =
    let s = g.S.Source in
    let ys = c.loop-position.positions in
    let n = c.loop-position.position-index in
    let before = s.meaning c.loop-position.source in
    let after = s.meaning c.next.new.self in
    let within : n < length ys = omega arith in
    elim c.match-next.branch [
      | in-Some w ↦
          let e = w.in-Some.entry in
          let split = fetched before after e w.in-Some.ensures.first w.in-Some.ensures.moves in
          let long : length before.remaining ≡ length after.remaining + 1 = ap length split ∙ omega arith in
          let laid = w.positions-is ∙ ap (λ (x : Item). set ys n x) (w.new.ensures ∙ ap (λ (side : Side). outstanding_item side e) c.SIDE-side.ensures) in
          record {
            ready = w.in-Some.ensures.again;
            room = omega (arith, long);
            whole = laid_more g.S.Origin.Sided.SIDE ys c.match-next.positions n e before.remaining after.remaining within split laid ∙ c.loop-position.invariant.whole;
            same = ap spent w.in-Some.ensures.moves ∙ c.loop-position.invariant.same;
          }
      | in_default w ↦
          let gone : length before.remaining ≡ 0 = ap length (none_left before.remaining w.in_default.ensures.first) in
          absurd (omega (arith, gone, c.loop-position.invariant.room))
    ]

pub returns-clause-items : goal.returns-clause-items
returns-clause-items g c =
    sym (laid_all g.S.Origin.Sided.SIDE c.loop-position.positions c.loop-position.position-index _ c.loop-position.invariant.room (omega arith)) ∙ c.loop-position.invariant.whole
