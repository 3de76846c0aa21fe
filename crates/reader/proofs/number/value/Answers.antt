use Rattle.std.proofs.Common.{get_or, sym, ap, ◌∙◌, arith}
use Rattle.reader.specs.Numbers.{within}
use Rattle.reader.proofs.NumberLaws.{digit_read, value_past}
use Rattle.reader.proofs.number.value.Goals as goal

pub returns-in_err-checked_mul : goal.returns-in_err-checked_mul
returns-in_err-checked_mul c =
    let d = digit_read (get_or c.args.digits.now c.loop-b.b-index 0) c.in_ok-digit.digit c.in_ok-digit.ensures.cases (omega (arith, c.in_ok-digit.ensures.value)) in
    c.from_residual-in_err-checked_mul.ensures
    ∙ sym (ap (within _ _) (sym c.loop-b.invariant.1) ∙ value_past 0 4294967295 _ _ _ c.loop-b-test.true d.0 (omega (arith, c.in_err-checked_mul.ensures)))

pub returns-in_err-n : goal.returns-in_err-n
returns-in_err-n c =
    let d = digit_read (get_or c.args.digits.now c.loop-b.b-index 0) c.in_ok-digit.digit c.in_ok-digit.ensures.cases (omega (arith, c.in_ok-digit.ensures.value)) in
    c.from_residual-in_err-n.ensures
    ∙ sym (ap (within _ _) (sym c.loop-b.invariant.1) ∙ value_past 0 4294967295 _ _ _ c.loop-b-test.true d.0 (omega (arith, c.in_err-n.ensures)))
