use Rattle.std.proofs.Common.{◌++◌, arith}
use Rattle.sheet.specs.Text.{field, line, type_text, heading_text}
use Rattle.sheet.proofs.PenLaws.{wrote_then}
use Rattle.sheet.proofs.pen.Pen.heading.Goals as goal

pub returns : goal.returns
unfolding heading_text
returns c =
    let i = line (field 105 c.args.heading.inputs) in
    let o = line (field 111 c.args.heading.outputs) in
    let n = line (field 112 c.args.heading.rows) in
    wrote_then (i ++ o ++ line type_text) n (omega arith)
    (wrote_then (i ++ o) (line type_text) (omega arith) (wrote_then i o (omega arith) c.field.ensures c.field-2.ensures) c.text.ensures)
    c.field-3.ensures
