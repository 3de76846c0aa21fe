use Rattle.std.proofs.Common.{◌∙◌, arith, length-set}
use Rattle.cover.specs.Holding.{used, free}
use Rattle.cover.proofs.Settling.{entered_alone, spared_alone, found_below, settled_same, settled_join, settled_end, SameLoan-trans}
use Rattle.cover.proofs.memory.Cover.settle.Goals as goal

pub remove-q-requires : goal.remove-q-requires
remove-q-requires g c =
    (omega arith, found_below g.P.Product.meaning c.loop-i.p c.loop-i.self.places.now c.loop-i.self.count (omega arith) c.in-Some.i c.in-Some.ensures)

pub returns-in_default-difference : goal.returns-in_default-difference
returns-in_default-difference g c =
    let m = g.P.Product.meaning in
    let inv = c.loop-i.invariant in
    let d = c.remove-q.new.self in
    let us = used c.args.self.now in
    let gone = c.remove-q.ensures in
    let done = settled_same m c.loop-i.p c.loop-i.self.places.now c.loop-i.self.count (omega arith) c.in-Some.i c.in-Some.ensures c.remove-q.result gone.product (used d) (free d) gone.list gone.rest c.in_default-difference.ensures in
    record {
      list = done.0 ∙ inv.list ∙ entered_alone m c.args.p us;
      rest = done.1 ∙ inv.rest ∙ spared_alone m c.args.p us (free c.args.self.now);
      loan = SameLoan-trans inv.loan gone.loan;
    }

pub loop-i-preserved : goal.loop-i-preserved
loop-i-preserved g c =
    let inv = c.loop-i.invariant in
    let d = c.remove-q.new.self in
    let gone = c.remove-q.ensures in
    let on = settled_join g.P.Product.meaning c.loop-i.p c.loop-i.self.places.now c.loop-i.self.count (omega arith) c.in-Some.i c.in-Some.ensures c.remove-q.result gone.product (used d) (free d) gone.list gone.rest c.in-Some-difference.d c.join-p.result c.in-Some-difference.ensures c.join-p.ensures in
    record { count = omega (arith, gone.one); loan = SameLoan-trans inv.loan gone.loan; list = on.0 ∙ inv.list; rest = on.1 ∙ inv.rest }

pub returns : goal.returns
returns g c =
    let m = g.P.Product.meaning in
    let xs = c.loop-i.self.places.now in
    let n = c.loop-i.self.count in
    let inv = c.loop-i.invariant in
    let us = used c.args.self.now in
    let end = settled_end m c.loop-i.p xs n (omega arith) (omega arith) c.in_default.ensures in
    record {
      list = end.0 ∙ inv.list ∙ entered_alone m c.args.p us;
      rest = end.1 ∙ inv.rest ∙ spared_alone m c.args.p us (free c.args.self.now);
      loan = record { size = length-set xs n c.loop-i.p ∙ inv.loan.size; lender = inv.loan.lender };
    }
