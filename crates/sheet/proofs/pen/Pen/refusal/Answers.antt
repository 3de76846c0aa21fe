use Rattle.std.proofs.Common.{[], ◌∷◌, ◌++◌, codes, ap, arith}
use Rattle.sheet.specs.Text.{decimal}
use Rattle.sheet.specs.Refusing.{refusal_text}
use Rattle.sheet.proofs.PenLaws.{wrote_same, wrote_then}
use Rattle.sheet.proofs.pen.Pen.refusal.Goals as goal

pub returns : goal.returns
unfolding refusal_text
returns c =
    wrote_then (codes "refused " ++ decimal c.args.number) (10 ∷ []) (omega arith)
    (wrote_then (codes "refused ") (decimal c.args.number) (omega arith) c.text.ensures
    (wrote_same _ _ (ap decimal c.from.ensures) c.short.ensures))
    c.text-2.ensures
