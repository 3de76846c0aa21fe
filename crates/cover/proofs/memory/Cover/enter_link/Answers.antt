use Rattle.std.proofs.Common.{◌-◌, ◌%◌, is_some, sym, ap, ◌∙◌, arith}
use Rattle.esop.specs.Entering.{entered_all, spared_all}
use Rattle.esop.specs.Linking.{link}
use Rattle.esop.proofs.Arranging.{factorial_pos}
use Rattle.esop.proofs.Linking.{link_step, link_none}
use Rattle.esop.proofs.Steps.{entered_all_nil, spared_all_nil}
use Rattle.cover.specs.Holding.{used, free}
use Rattle.cover.proofs.Settling.{SameLoan-trans, one_count, one_entered, one_spared}
use Rattle.cover.proofs.Judging.{position_there}
use Rattle.cover.proofs.memory.Cover.enter_link.Goals as goal

pub nonzero_rem-rest : goal.nonzero_rem-rest
nonzero_rem-rest g c = omega (arith, factorial_pos (c.loop-left.left - 1), c.factorial-orders.ensures)

pub unwrap-position-requires : goal.unwrap-position-requires
unwrap-position-requires g c =
    let inv = c.loop-left.invariant in
    ap is_some c.difference.ensures
    ∙ position_there g.P.Product.meaning c.loop-left.from c.args.group.b c.loop-left.rest c.loop-left.left c.factorial-orders.result c.loop-left-test.true inv.near inv.order c.factorial-orders.ensures

pub loop-left-preserved : goal.loop-left-preserved
loop-left-preserved g c =
    let m = g.P.Product.meaning in
    let laws = g.met.P.Product.lawful in
    let s = c.loop-left.self in
    let d = c.settle.new.self in
    let x = c.join.result in
    let next = c.take-next.result in
    let inv = c.loop-left.invariant in
    let done = c.settle.ensures in
    let f = c.factorial-orders.result in
    let step = link_step m laws c.loop-left.from c.args.group.b next x c.loop-left.rest c.loop-left.left f c.unwrap-position.result c.loop-left-test.true inv.near inv.order c.factorial-orders.ensures (sym c.difference.ensures ∙ c.unwrap-position.ensures) c.take-next.ensures c.join.ensures in
    let more = one_count m laws x s d done in
    let left = link m next c.args.group.b (c.loop-left.rest % f) in
    record {
      near = step.closer;
      order = step.numbered;
      most = omega arith;
      places = omega (arith, done.loan.size);
      within = omega arith;
      loan = SameLoan-trans inv.loan done.loan;
      list = one_entered m x left s d done ∙ ap (λ qs. entered_all m qs (used s)) (sym step.splits) ∙ inv.list;
      free = one_spared m x left s d done ∙ ap (λ qs. spared_all m qs (used s) (free s)) (sym step.splits) ∙ inv.free;
    }

pub returns : goal.returns
returns g c =
    let m = g.P.Product.meaning in
    let inv = c.loop-left.invariant in
    let s = c.loop-left.self in
    let none = link_none m g.met.P.Product.lawful c.loop-left.from c.args.group.b c.loop-left.rest (omega arith) in
    record {
      list = sym (ap (λ qs. entered_all m qs (used s)) none ∙ entered_all_nil m (used s)) ∙ inv.list;
      rest = sym (ap (λ qs. spared_all m qs (used s) (free s)) none ∙ spared_all_nil m (used s) (free s)) ∙ inv.free;
      loan = inv.loan;
    }
