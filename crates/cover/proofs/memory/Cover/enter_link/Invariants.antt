use Rattle.std.proofs.Common.{◌≡◌, ◌+◌, ◌<◌, ◌≤◌, length}
use Rattle.esop.specs.Kind.{distance}
use Rattle.esop.specs.Entering.{entered_all, spared_all}
use Rattle.esop.specs.Linking.{factorial, link}
use Rattle.cover.specs.Holding.{used, free, SameLoan}
use Rattle.cover.proofs.memory.Cover.enter_link.Given as goal

-- entering what is left of the link gives the same
abbrev pub invariant-loop-left : goal.invariant-loop-left
invariant-loop-left g l =
    let m = g.P.Product.meaning in
    record {
      near : l.left ≡ distance m l.from l.group.b;
      order : l.rest < factorial l.left;
      most : l.left ≤ 4;
      places : l.self.count + l.left ≤ length l.self.places.now;
      within : l.self.count + l.left ≤ g.row.N;
      loan : SameLoan l.initial.self l.self;
      list : entered_all m (link m l.from l.group.b l.rest) (used l.self) ≡ entered_all m (link m l.initial.from l.group.b l.initial.rest) (used l.initial.self);
      free : spared_all m (link m l.from l.group.b l.rest) (used l.self) (free l.self) ≡ spared_all m (link m l.initial.from l.group.b l.initial.rest) (used l.initial.self) (free l.initial.self);
    }
