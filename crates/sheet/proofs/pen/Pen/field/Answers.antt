use Rattle.std.proofs.Common.{[], ◌∷◌, arith}
use Rattle.sheet.specs.Text.{field, decimal}
use Rattle.sheet.proofs.PenLaws.{wrote_then}
use Rattle.sheet.proofs.pen.Pen.field.Goals as goal

pub returns : goal.returns
returns c =
    wrote_then (field c.args.letter c.args.n) (10 ∷ []) (omega arith)
    (wrote_then (46 ∷ c.args.letter ∷ 32 ∷ []) (decimal c.args.n) (omega arith) c.text.ensures c.short.ensures)
    c.text-2.ensures
