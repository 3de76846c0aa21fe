use Rattle.std.proofs.Common.{◌≡◌, length, take, refl, ◌∙◌, subst, arith, rules}
use Rattle.std.specs.List.{AllByRecursion}
use Rattle.cover.specs.Serving.{Untouched}
use Rattle.cover.proofs.Turning.{turned_start, turned_more, turned_all, untouched_more}
use Rattle.cover.proofs.serve.serve_all.Goals as goal

pub loop-i-init : goal.loop-i-init
loop-i-init g c =
    let s = c.open-cover.result in
    record {
      turned = turned_start g.P.Product.meaning g.C.Criterion.keeps s.places.now c.args.list.now c.args.requests.now (length c.args.work.now) c.args.answers.now s c.open-cover.ensures.empty refl;
      lender = refl;
      work = λ _. refl;
    }

pub loop-i-preserved : goal.loop-i-preserved
loop-i-preserved g c =
    let inv = c.loop-i.invariant in
    let done = c.obey.ensures in
    record {
      turned = turned_more g.P.Product.meaning g.C.Criterion.keeps c.open-cover.result.places.now c.args.list.now c.args.requests.now (length c.args.work.now) c.args.answers.now c.loop-i.cover c.obey.new.self c.loop-i.answers c.loop-i.i c.index-requests-i.result c.obey.result (length c.loop-i.work) inv.turned c.requires c.loop-i-test.true c.index-requests-i.is c.loop-i.auto.work done.reply done.call;
      lender = done.loan.lender ∙ inv.lender;
      work = λ u. let both = untouched_more c.loop-i.answers c.loop-i.i c.obey.result (omega (arith, inv.turned.long)) u in done.work both.1 ∙ inv.work both.0;
    }

pub returns : goal.returns
returns g c =
    let inv = c.loop-i.invariant in
    let same = inv.lender ∙ c.open-cover.ensures.lender in
    record {
      all = turned_all g.P.Product.meaning g.C.Criterion.keeps c.open-cover.result.places.now c.args.list.now c.args.requests.now (length c.args.work.now) c.args.answers.now g.met.P.Product.lawful g.met.C.Criterion.strict c.loop-i.cover c.loop-i.answers c.loop-i.i inv.turned c.loop-i-test.false c.args.places.now _ c.open-cover.ensures.memory (search rules);
      work = λ u. inv.work (subst (λ n. AllByRecursion Untouched (take n c.loop-i.answers)) (let e : length c.args.requests.now ≡ c.loop-i.i = omega (arith, inv.turned.within) in e) u);
    }
