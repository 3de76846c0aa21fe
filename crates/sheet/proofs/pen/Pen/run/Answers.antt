use Rattle.std.proofs.Common.{◌++◌, codes, decimal, arith}
use Rattle.sheet.specs.Reporting.{start_text, ending_text, run_text}
use Rattle.sheet.proofs.PenLaws.{wrote_same, wrote_then}
use Rattle.sheet.proofs.pen.Pen.run.Goals as goal

pub returns : goal.returns
unfolding run_text
returns c =
    let a = start_text c.args.run.strategy in
    let t = decimal c.args.run.tried in
    let k = decimal c.args.run.kept in
    let start = wrote_same c.start.result.now a c.start.ensures c.text.ensures in
    let ending = wrote_same c.ending.result.now (ending_text c.args.run.end) c.ending.ensures c.text-3.ensures in
    wrote_then (a ++ t ++ codes " kept " ++ k) (ending_text c.args.run.end) (omega arith)
    (wrote_then (a ++ t ++ codes " kept ") k (omega arith)
    (wrote_then (a ++ t) (codes " kept ") (omega arith) (wrote_then a t (omega arith) start c.decimal.ensures) c.text-2.ensures)
    c.decimal-2.ensures)
    ending
