use Rattle.std.proofs.Common.{refl}
use Rattle.std.proofs.lemmas.Result.{err_from_is_err_and}
use Rattle.minimizer.proofs.CallLaws.{call_refused, call_printed}
use Rattle.minimizer.proofs.FaithfulLaws.{promised}
use Rattle.minimizer.proofs.call.print_sheet.Goals as goal

pub returns-in_err-minimized-clause-answered : goal.returns-in_err-minimized-clause-answered
returns-in_err-minimized-clause-answered c =
    let p = err_from_is_err_and c.from_residual.result c.from_residual.ensures.1 in
    rw (p.1, p.2)
    (call_refused c.args.text.now _ c.args.len c.min-end.result _ _ _ c.in_err-minimized.field-0.0 c.min-end.ensures refl refl refl c.in_err-minimized.ensures.minimizes.answer refl)

pub returns-in_err-minimized-clause-promised : goal.returns-in_err-minimized-clause-promised
returns-in_err-minimized-clause-promised c = promised

pub returns-clause-answered : goal.returns-clause-answered
returns-clause-answered c =
    call_printed c.args.text.now _ c.args.len c.min-end.result _ _ _ c.in_ok-minimized.minimized c.minimize.new.places _ c.min-end.ensures refl refl refl
    c.in_ok-minimized.ensures.minimizes.answer c.in_ok-minimized.ensures.minimizes.first c.put_minimized.ensures

pub returns-clause-promised : goal.returns-clause-promised
returns-clause-promised c = promised
