use Rattle.std.proofs.Common.{◌≡◌, ◌≤◌}
use Rattle.esop.proofs.Differing.{differences}
use Rattle.esop.proofs.product.Product.distance.Given as goal

-- the positions below i are counted, and there are no more than i of them
abbrev pub invariant-loop-i : goal.invariant-loop-i
invariant-loop-i g l = (l.count ≡ differences g.Self.Product.meaning l.self l.other l.i) × (l.count ≤ l.i)
