use Rattle.std.proofs.Common.{◌≡◌, ◌+◌}
use Rattle.cover.proofs.Walking.{Walk}
use Rattle.cover.proofs.run.Cover+P+MOST.round.Given as goal

-- the groups of the places before are tried, and the cover is as it was
abbrev pub invariant-loop-first : goal.invariant-loop-first
invariant-loop-first g l =
    record {
      same : l.self ≡ l.fn.self;
      walk : Walk g.P.Product.meaning (g.C.Criterion.keeps l.criterion) l.budget l.fn.self l.fn.tally l.fn.work l.tally l.work l.first (l.first + 1) 0;
    }

abbrev pub invariant-loop-second : goal.invariant-loop-second
invariant-loop-second g l =
    record {
      same : l.self ≡ l.fn.self;
      walk : Walk g.P.Product.meaning (g.C.Criterion.keeps l.criterion) l.budget l.fn.self l.fn.tally l.fn.work l.tally l.work l.first l.second 0;
    }

abbrev pub invariant-loop-number : goal.invariant-loop-number
invariant-loop-number g l =
    record {
      same : l.self ≡ l.fn.self;
      walk : Walk g.P.Product.meaning (g.C.Criterion.keeps l.criterion) l.budget l.fn.self l.fn.tally l.fn.work l.tally l.work l.first l.second l.number;
    }
