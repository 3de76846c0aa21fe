use Rattle.std.proofs.Common.{◌≡◌, subst, arith}
use Rattle.sheet.specs.Pens.{WroteChars}
use Rattle.sheet.proofs.PenLaws.{chars_none, chars_next}
use Rattle.sheet.proofs.pen.Pen.chars.Goals as goal

pub loop-j-init : goal.loop-j-init
loop-j-init g c = chars_none _ _

pub loop-j-preserved : goal.loop-j-preserved
loop-j-preserved g c = chars_next _ _ c.loop-j.j c.char_at.result (omega arith) c.char_at.ensures c.loop-j.invariant c.char.ensures

pub returns : goal.returns
returns g c =
    let e : c.loop-j.j ≡ c.args.n = omega arith in
    subst (λ k. WroteChars (λ j r. goal.F-post g c.args.char_at j r) c.args.self.now k c.loop-j.self) e c.loop-j.invariant
