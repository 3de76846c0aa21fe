use Rattle.std.proofs.Common.{[], ◌∷◌, ◌++◌, arith, rules}
use Rattle.sheet.specs.Pens.{Wrote}
use Rattle.sheet.specs.Text.{input_chars, output_chars, row_text}
use Rattle.sheet.proofs.PenLaws.{wrote_then}
use Rattle.sheet.proofs.PutLaws.{row_length}
use Rattle.sheet.proofs.pen.Pen.row.Goals as goal

pub returns : goal.returns
unfolding row_text
returns c =
    let e = row_length c.args.heading.inputs c.args.heading.outputs c.args.product.now in
    let is = input_chars c.args.product.now c.args.heading.inputs in
    let os = output_chars c.args.product.now c.args.heading.outputs in
    let i : Wrote c.args.self.now is c.chars.new.self = c.chars.ensures.wrote _ (λ j r h. search rules) in
    let o : Wrote c.text.new.self os c.chars-2.new.self = c.chars-2.ensures.wrote _ (λ j r h. search rules) in
    wrote_then (is ++ 32 ∷ os) (10 ∷ []) (omega arith)
    (wrote_then is (32 ∷ os) (omega arith) i (wrote_then (32 ∷ []) os (omega arith) c.text.ensures o))
    c.text-2.ensures
