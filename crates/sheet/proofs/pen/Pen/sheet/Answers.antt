use Rattle.std.proofs.Common.{arith}
use Rattle.sheet.proofs.SheetLaws.{sheet_length_told, row_room, rows_next, sheet_wrote}
use Rattle.sheet.proofs.pen.Pen.sheet.Goals as goal

pub row-requires : goal.row-requires
row-requires c =
    let long = sheet_length_told c.args.heading.inputs c.args.heading.outputs c.args.products.now c.args.heading.rows c.requires.rows in
    row_room c.args.heading.inputs c.args.heading.outputs c.args.products.now c.loop-product.product-index c.product-item.result c.loop-product-test.true
    (omega arith)
    c.loop-product.invariant

pub loop-product-preserved : goal.loop-product-preserved
loop-product-preserved c =
    let long = sheet_length_told c.args.heading.inputs c.args.heading.outputs c.args.products.now c.args.heading.rows c.requires.rows in
    rows_next c.args.heading.inputs c.args.heading.outputs c.args.products.now c.loop-product.product-index c.product-item.result (omega arith)
    c.loop-product-test.true c.product-item.is c.loop-product.invariant c.row.ensures

pub returns : goal.returns
returns c =
    let long = sheet_length_told c.args.heading.inputs c.args.heading.outputs c.args.products.now c.args.heading.rows c.requires.rows in
    sheet_wrote c.args.heading.inputs c.args.heading.outputs c.args.products.now c.args.heading.rows c.loop-product.product-index c.requires.rows
    c.loop-product-test.false (omega arith) (omega arith) c.heading.ensures c.loop-product.invariant c.end.ensures
