use Rattle.std.proofs.Common.{◌≡◌, ◌+◌}
use Rattle.esop.proofs.Differing.{differences}
use Rattle.esop.proofs.product.Product.difference.Given as goal

-- what is left to skip, with the positions that were passed, makes n
abbrev pub invariant-loop-i : goal.invariant-loop-i
invariant-loop-i g l = l.skip + differences g.Self.Product.meaning l.self l.other l.i ≡ l.n
