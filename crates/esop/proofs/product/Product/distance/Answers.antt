use Rattle.std.proofs.Common.{◌≤◌, ◌∙◌, arith}
use Rattle.esop.proofs.Differing.{more_yes, more_no, differences_past}
use Rattle.esop.proofs.product.Product.distance.Goals as goal
use Rattle.esop.proofs.product.Product.distance.Goals.{then-differs, else-differs}

pub loop-i-preserved : goal.loop-i-preserved
loop-i-preserved g c =
    let m = g.Self.Product.meaning in
    elim c.if-differs.branch [
      | then-differs w ↦
          (let more = more_yes m c.args.self c.args.other c.loop-i.i w.if-differs.ensures in
          (omega (arith, w.count-is), omega (arith, w.count-is)))
      | else-differs w ↦
          (let more = more_no m c.args.self c.args.other c.loop-i.i w.if-differs.ensures in
          (omega (arith, w.count-is), omega (arith, w.count-is)))
    ]

pub returns : goal.returns
returns g c =
    let m = g.Self.Product.meaning in
    let bounds = g.met.Self.Product.lawful.positions.width_bounds in
    let past : m.width ≤ c.loop-i.i = omega arith in
    c.loop-i.invariant.0 ∙ differences_past m c.args.self c.args.other c.loop-i.i past
