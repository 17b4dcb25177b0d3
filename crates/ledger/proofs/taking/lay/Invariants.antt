use Rattle.std.proofs.Common.{◌≡◌, ◌+◌, length}
use Rattle.ledger.specs.Takings.{spent}
use Rattle.ledger.proofs.Laying.{with_rest}
use Rattle.ledger.proofs.taking.lay.Given as goal

-- what remains, behind what was laid, makes the whole; and what the statement comes to stays
abbrev pub invariant-loop-position : goal.invariant-loop-position
invariant-loop-position g l =
    let s = g.S.Source in
    record {
      ready : s.ready l.source;
      room : l.position-index + length (s.meaning l.source).remaining ≡ length l.positions;
      whole : with_rest g.S.Origin.Sided.SIDE l.positions l.position-index (s.meaning l.source).remaining ≡ with_rest g.S.Origin.Sided.SIDE l.initial.positions 0 (s.meaning l.initial.source).remaining;
      same : spent (s.meaning l.source) ≡ spent (s.meaning l.initial.source);
    }
