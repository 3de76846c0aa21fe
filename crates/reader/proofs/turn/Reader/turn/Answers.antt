use Rattle.std.proofs.Common.{◌≡◌, Some, None, Err, rules, subst}
use Rattle.reader.specs.Turns.{Moved}
use Rattle.reader.proofs.JudgedLaws.{turned_done, turned_broken, turned_ok, turned_err}
use Rattle.reader.proofs.turn.Reader.turn.Goals as goal

pub returns-in-None : goal.returns-in-None
returns-in-None c = turned_done c.args.self.now c.next.new.self _ c.in-None.ensures.0 c.in-None.ensures.1 c.finish.ensures

pub returns-in_err-line-in-Some : goal.returns-in_err-line-in-Some
returns-in_err-line-in-Some c =
    let h = subst (λ l. Moved c.args.self.now c.next.new.self (Some l)) c.in_err-line-in-Some.was c.in-Some.ensures in
    let is : c.from_residual.result ≡ Err c.in_err-line-in-Some.field-0.0 = search rules in
    turned_broken c.args.self.now c.next.new.self _ _ _ h.0 h.1 is

pub returns-in_err-step-in-Some : goal.returns-in_err-step-in-Some
returns-in_err-step-in-Some c =
    let h = subst (λ l. Moved c.args.self.now c.next.new.self (Some l)) c.in_ok-line-in-Some.was c.in-Some.ensures in
    let is : c.from_residual-in_err-step-in-Some.result ≡ Err c.in_err-step-in-Some.field-0.0 = search rules in
    turned_err c.args.self.now c.next.new.self c.step.new.self _ _ _ h.0 h.1 c.in_err-step-in-Some.ensures.answer is

pub returns-in-None-2 : goal.returns-in-None-2
returns-in-None-2 c =
    let h = subst (λ l. Moved c.args.self.now c.next.new.self (Some l)) c.in_ok-line-in-Some.was c.in-Some.ensures in
    let s = c.in_ok-step-in-Some.ensures in
    turned_ok c.args.self.now c.next.new.self c.step.new.self _ _ None c.in-None-2.is h.0 h.1 h.2 s.answer s.places s.rest

pub returns-in-Some-2 : goal.returns-in-Some-2
returns-in-Some-2 c =
    let h = subst (λ l. Moved c.args.self.now c.next.new.self (Some l)) c.in_ok-line-in-Some.was c.in-Some.ensures in
    let s = c.in_ok-step-in-Some.ensures in
    turned_ok c.args.self.now c.next.new.self c.step.new.self _ _ (Some c.in-Some-2.product) c.in-Some-2.is h.0 h.1 h.2 s.answer s.places s.rest
