use Rattle.sheet.specs.Pens.{Wrote}
use Rattle.sheet.proofs.SheetLaws.{rows_text}
use Rattle.sheet.proofs.pen.Pen.sheet.Given as goal

abbrev pub invariant-loop-product : goal.invariant-loop-product
invariant-loop-product l =
    Wrote l.initial.self (rows_text l.fn.heading.inputs l.fn.heading.outputs l.products l.product-index) l.self
