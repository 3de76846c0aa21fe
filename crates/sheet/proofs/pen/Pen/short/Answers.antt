use Rattle.std.proofs.Common.{length, ap, arith}
use Rattle.sheet.proofs.DecimalLaws.{one_written, two_written, three_written}
use Rattle.sheet.proofs.PenLaws.{wrote_same}
use Rattle.sheet.proofs.pen.Pen.short.Goals as goal

pub text-requires : goal.text-requires
text-requires c = let e = ap length (one_written c.args.n _ (omega arith) c.digit.ensures) in omega arith

pub text-requires-in-10-to-99 : goal.text-requires-in-10-to-99
text-requires-in-10-to-99 c =
    let e = ap length (two_written c.args.n _ _ (omega arith) (omega arith) c.digit-in-10-to-99.ensures c.digit-in-10-to-99-2.ensures) in
    omega arith

pub text-requires-in_default : goal.text-requires-in_default
text-requires-in_default c =
    let e =
    ap length
    (three_written c.args.n _ _ _ (omega arith) c.digit-in_default.ensures c.digit-in_default-2.ensures c.digit-in_default-3.ensures) in
    omega arith

pub returns-in-0-to-9 : goal.returns-in-0-to-9
returns-in-0-to-9 c = wrote_same _ _ (one_written c.args.n _ (omega arith) c.digit.ensures) c.text.ensures

pub returns-in-10-to-99 : goal.returns-in-10-to-99
returns-in-10-to-99 c =
    wrote_same _ _ (two_written c.args.n _ _ (omega arith) (omega arith) c.digit-in-10-to-99.ensures c.digit-in-10-to-99-2.ensures)
    c.text-in-10-to-99.ensures

pub returns-in_default : goal.returns-in_default
returns-in_default c =
    wrote_same _ _ (three_written c.args.n _ _ _ (omega arith) c.digit-in_default.ensures c.digit-in_default-2.ensures c.digit-in_default-3.ensures)
    c.text-in_default.ensures
