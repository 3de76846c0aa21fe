use Rattle.std.proofs.Common.{◌≡◌, ◌+◌, ◌≤◌, drop}
use Rattle.esop.specs.Entering.{entered_all, spared_all}
use Rattle.cover.specs.Holding.{used, free, SameLoan}
use Rattle.cover.proofs.memory.Cover.settle_all.Given as goal

-- entering what is left of the products gives the same
abbrev pub invariant-loop-p : goal.invariant-loop-p
invariant-loop-p g l =
    let m = g.P.Product.meaning in
    record {
      count : l.self.count ≤ l.initial.self.count + l.p-index;
      loan : SameLoan l.initial.self l.self;
      list : entered_all m (drop l.p-index l.ps) (used l.self) ≡ entered_all m l.ps (used l.initial.self);
      rest : spared_all m (drop l.p-index l.ps) (used l.self) (free l.self) ≡ spared_all m l.ps (used l.initial.self) (free l.initial.self);
    }
