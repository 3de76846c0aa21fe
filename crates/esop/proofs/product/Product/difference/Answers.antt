use Rattle.std.proofs.Common.{◌≡◌, ◌≤◌, sym, arith}
use Rattle.esop.proofs.Differing.{differences, more_yes, more_no, nth_here, nth_none}
use Rattle.esop.proofs.product.Product.difference.Goals as goal
use Rattle.esop.proofs.product.Product.difference.Goals.{then-differs+else-skip-eq0, else-differs}

pub loop-i-preserved : goal.loop-i-preserved
loop-i-preserved g c =
    let m = g.Self.Product.meaning in
    elim c.if-differs.branch [
      | then-differs+else-skip-eq0 w ↦
          (let more = more_yes m c.args.self c.args.other c.loop-i.i w.if-differs.ensures in
          omega (arith, w.skip-is, w.if-skip-eq0.false))
      | else-differs w ↦
          (let more = more_no m c.args.self c.args.other c.loop-i.i w.if-differs.ensures in
          omega (arith, w.skip-is))
    ]

pub returns-then-skip-eq0 : goal.returns-then-skip-eq0
returns-then-skip-eq0 g c =
    let m = g.Self.Product.meaning in
    let passed : differences m c.args.self c.args.other c.loop-i.i ≡ c.args.n = omega arith in
    sym (nth_here m c.args.self c.args.other c.loop-i.i c.args.n passed c.if-differs.ensures)

pub returns : goal.returns
returns g c =
    let m = g.Self.Product.meaning in
    let bounds = g.met.Self.Product.lawful.positions.width_bounds in
    let past : m.width ≤ c.loop-i.i = omega arith in
    let few : differences m c.args.self c.args.other c.loop-i.i ≤ c.args.n = omega arith in
    sym (nth_none m c.args.self c.args.other c.loop-i.i c.args.n past few)
