use Rattle.std.proofs.Common.{[], arith}
use Rattle.report.proofs.Joining.{field_room, field_more}
use Rattle.report.proofs.line.Line.row.Goals as goal

pub loop-field-preserved : goal.loop-field-preserved
loop-field-preserved c =
    let room = field_room c.args.fields.now c.loop-field.field-index (record { ref_ptr = (0, 0); now = [] }) c.loop-field.bytes.items _ c.loop-field-test.true c.loop-field.invariant in
    field_more c.args.fields.now c.loop-field.field-index (record { ref_ptr = (0, 0); now = [] }) c.loop-field.bytes.items _ c.loop-field-test.true c.loop-field.invariant
    c.try_extend_from_slice.new.self.items (grind arith)
