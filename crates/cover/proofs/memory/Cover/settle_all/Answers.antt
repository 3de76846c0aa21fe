use Rattle.std.proofs.Common.{◌≡◌, ◌+◌, ◌∷◌, drop, sym, ap, ◌∙◌, arith}
use Rattle.std.proofs.lemmas.List.{drop_more, drop_all}
use Rattle.cover.specs.Holding.{used, free}
use Rattle.cover.proofs.Settling.{SameLoan-trans, one_count, one_entered, one_spared}
use Rattle.esop.specs.Entering.{entered_all, spared_all}
use Rattle.esop.proofs.Steps.{entered_all_nil, spared_all_nil}
use Rattle.cover.proofs.memory.Cover.settle_all.Goals as goal

pub loop-p-preserved : goal.loop-p-preserved
loop-p-preserved g c =
    let m = g.P.Product.meaning in
    let ps = c.args.ps.now in
    let k = c.loop-p.p-index in
    let x = c.p-item.result in
    let s = c.loop-p.self in
    let d = c.settle.new.self in
    let inv = c.loop-p.invariant in
    let done = c.settle.ensures in
    let next : drop k ps ≡ x ∷ drop (k + 1) ps = drop_more ps k x c.loop-p-test.true ∙ ap (λ y. y ∷ drop (k + 1) ps) (sym c.p-item.is) in
    let more = one_count m g.met.P.Product.lawful x s d done in
    record {
      count = omega arith;
      loan = SameLoan-trans inv.loan done.loan;
      list = one_entered m x (drop (k + 1) ps) s d done ∙ ap (λ qs. entered_all m qs (used s)) (sym next) ∙ inv.list;
      rest = one_spared m x (drop (k + 1) ps) s d done ∙ ap (λ qs. spared_all m qs (used s) (free s)) (sym next) ∙ inv.rest;
    }

pub returns : goal.returns
returns g c =
    let m = g.P.Product.meaning in
    let inv = c.loop-p.invariant in
    let s = c.loop-p.self in
    let end = drop_all c.loop-p.p-index c.args.ps.now c.loop-p-test.false in
    record {
      list = sym (ap (λ qs. entered_all m qs (used s)) end ∙ entered_all_nil m (used s)) ∙ inv.list;
      rest = sym (ap (λ qs. spared_all m qs (used s) (free s)) end ∙ spared_all_nil m (used s) (free s)) ∙ inv.rest;
      loan = inv.loan;
    }
