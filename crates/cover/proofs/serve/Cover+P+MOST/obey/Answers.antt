use Rattle.std.proofs.Common.{length, sym, ap, subst, rules}
use Rattle.esop.specs.History.{admitted}
use Rattle.cover.specs.Calls.{Replied, entry_answer}
use Rattle.cover.specs.Trying.{link_answer}
use Rattle.cover.specs.Recording.{run_answer}
use Rattle.cover.specs.Holding.{held_of}
use Rattle.cover.specs.Serving.{call_asked}
use Rattle.cover.proofs.Turning.{by_enter, by_enter_all, by_link, by_run}
use Rattle.cover.proofs.serve.Cover+P+MOST.obey.Goals as goal

pub returns-in-Enter : goal.returns-in-Enter
returns-in-Enter g c =
    let done = c.enter.ensures in
    record {
      reply = by_enter g.P.Product.meaning g.C.Criterion.keeps c.args.list.now (held_of c.args.self.now) (length c.args.work.now) c.args.request.now (entry_answer c.enter.result) c.enter.new.self c.in-Enter.p c.in-Enter.is done.reply;
      call = sym (ap call_asked c.in-Enter.is);
      work = λ _. search rules;
      loan = done.loan;
    }

pub returns-in-EnterAll : goal.returns-in-EnterAll
returns-in-EnterAll g c =
    let done = c.enter_all.ensures in
    record {
      reply = by_enter_all g.P.Product.meaning g.C.Criterion.keeps c.args.list.now (held_of c.args.self.now) (length c.args.work.now) c.args.request.now (entry_answer c.enter_all.result) c.enter_all.new.self c.in-EnterAll.from c.in-EnterAll.to c.in-EnterAll.is (subst (λ ps. Replied (admitted g.P.Product.meaning (held_of c.args.self.now) ps) (entry_answer c.enter_all.result) c.enter_all.new.self) c.part.ensures done.reply);
      call = sym (ap call_asked c.in-EnterAll.is);
      work = λ _. search rules;
      loan = done.loan;
    }

pub returns-in-Link : goal.returns-in-Link
returns-in-Link g c =
    let done = c.link.ensures in
    let at = c.in-Link in
    record {
      reply = by_link g.P.Product.meaning g.C.Criterion.keeps c.args.list.now (held_of c.args.self.now) (length c.args.work.now) c.args.request.now (link_answer c.link.result) c.link.new.self at.criterion at.first at.second at.order at.is done.call.reply;
      call = sym (ap call_asked c.in-Link.is);
      work = λ u. done.work u;
      loan = done.call.loan;
    }

pub returns-in-Run : goal.returns-in-Run
returns-in-Run g c =
    let done = c.run.ensures in
    let at = c.in-Run in
    record {
      reply = by_run g.P.Product.meaning g.C.Criterion.keeps c.args.list.now (held_of c.args.self.now) (length c.args.work.now) c.args.request.now (run_answer c.run.result) c.run.new.self at.criterion at.budget at.is done.call.reply;
      call = sym (ap call_asked c.in-Run.is);
      work = λ u. done.work u;
      loan = done.call.loan;
    }
