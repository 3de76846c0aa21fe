use Rattle.std.proofs.Common.{◌≡◌, ◌≤◌}
use Rattle.esop.specs.Entering.{entered, spared}
use Rattle.cover.specs.Holding.{used, free, SameLoan}
use Rattle.cover.proofs.memory.Cover.settle.Given as goal

-- entering what is to enter now gives the same
abbrev pub invariant-loop-i : goal.invariant-loop-i
invariant-loop-i g l =
    let m = g.P.Product.meaning in
    record {
      count : l.self.count ≤ l.initial.self.count;
      loan : SameLoan l.initial.self l.self;
      list : entered m l.p (used l.self) ≡ entered m l.initial.p (used l.initial.self);
      rest : spared m l.p (used l.self) (free l.self) ≡ spared m l.initial.p (used l.initial.self) (free l.initial.self);
    }

abbrev pub decreases-loop-i : goal.decreases-loop-i
decreases-loop-i g l = l.self.count
