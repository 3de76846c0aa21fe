use Rattle.std.proofs.Common.{◌-◌}
use Rattle.esop.specs.Running.{all_tried, run}
use Rattle.esop.specs.History.{reported}
use Rattle.cover.specs.Holding.{used, held_of}
use Rattle.cover.specs.Recording.{rows_of}
use Rattle.cover.specs.Rounds.{Going}
use Rattle.cover.proofs.run.Cover+P+MOST.exhaust.Given as goal

abbrev pub invariant-loop-end : goal.invariant-loop-end
invariant-loop-end g l =
    let m = g.P.Product.meaning in
    let test = g.C.Criterion.keeps l.criterion in
    let c = l.initial.self in
    Going m test l.budget (reported m (held_of c) (run m test l.budget (used c))) c l.initial.work l.self l.tally l.work

-- each round but the last one tries a group
abbrev pub decreases-loop-end : goal.decreases-loop-end
decreases-loop-end g l = l.budget - all_tried (rows_of l.tally)
