use Rattle.std.proofs.Common.{◌≡◌}
use Rattle.text.specs.Lines.{lines_from}
use Rattle.text.specs.Left.{lines_left}
use Rattle.text.proofs.Scanned.{steps_over}
use Rattle.text.proofs.scan.Given as goal

-- the steps over the lines that are left, from the state reached, give those over all lines
abbrev pub invariant-loop-line : goal.invariant-loop-line
invariant-loop-line g l =
    let r = g.S.Reading in
    (steps_over r.stepped l.state (lines_left l.line-iterator) ≡ steps_over r.stepped l.fn.start (lines_from 0 l.text))
    × r.sound l.state
