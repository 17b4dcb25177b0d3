use Rattle.std.proofs.Common.{◌≡◌, [], ◌∷◌, map, drop}
use Rattle.report.specs.Rows.{row}
use Rattle.report.proofs.line.Line.row.Given as goal

-- with the fields that are left behind it, what is written gives the whole
abbrev pub invariant-loop-field : goal.invariant-loop-field
invariant-loop-field l =
    row l.bytes.items (map (λ f. f.now) (drop l.field-index l.fields)) ≡ row (l.tag ∷ []) (map (λ f. f.now) l.fields)
