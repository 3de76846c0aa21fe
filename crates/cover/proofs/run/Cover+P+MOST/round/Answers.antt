use Rattle.std.proofs.Common.{refl, ap, ◌∙◌, arith}
use Rattle.cover.proofs.Walking.{reads_at, walk_start, walk_row, walk_pair, walk_spent, walk_kept, walk_on, walk_done}
use Rattle.cover.proofs.run.Cover+P+MOST.round.Goals as goal

pub loop-first-init : goal.loop-first-init
loop-first-init g c =
    record { same = refl; walk = walk_start g.P.Product.meaning (g.C.Criterion.keeps c.args.criterion.now) c.args.self.now c.args.work.now c.requires.record }

pub returns-then-tried-from : goal.returns-then-tried-from
returns-then-tried-from g c =
    let inv = c.loop-number.invariant in
    let reads = reads_at c.group-pair.ensures c.loop-second.invariant.same c.loop-number.number in
    walk_spent inv.walk reads c.span-distance.result c.orders-number-end.result c.span-distance.ensures c.orders-number-end.ensures c.loop-number-test.true (omega (arith, c.tried.ensures, c.from.ensures)) c.loop-number.self inv.same

pub returns-then-kept : goal.returns-then-kept
returns-then-kept g c =
    let inv = c.loop-number.invariant in
    let tried = c.attempt-kept.ensures in
    let reads = reads_at c.group-pair.ensures c.loop-second.invariant.same c.loop-number.number in
    walk_kept inv.walk reads c.span-distance.result c.orders-number-end.result c.span-distance.ensures c.orders-number-end.ensures c.loop-number-test.true (omega (arith, c.tried.ensures, c.from.ensures)) c.attempt-kept.result c.note.new.self c.note.ensures c.if-kept.true (g.met.C.Criterion.strict c.args.criterion.now) c.loop-number.self c.attempt-kept.new.self c.attempt-kept.new.work inv.same tried.verdict (tried.kept c.if-kept.true) tried.loan

pub loop-number-preserved : goal.loop-number-preserved
loop-number-preserved g c =
    let inv = c.loop-number.invariant in
    let tried = c.attempt-kept.ensures in
    let reads = reads_at c.group-pair.ensures c.loop-second.invariant.same c.loop-number.number in
    record {
      same = tried.same c.if-kept.false ∙ inv.same;
      walk = walk_on inv.walk reads c.span-distance.result c.orders-number-end.result c.span-distance.ensures c.orders-number-end.ensures c.loop-number-test.true (omega (arith, c.tried.ensures, c.from.ensures)) c.attempt-kept.result c.note.new.self c.note.ensures c.if-kept.false c.loop-number.self c.attempt-kept.new.work inv.same tried.verdict;
    }

pub loop-second-preserved : goal.loop-second-preserved
loop-second-preserved g c =
    let inv = c.loop-number.invariant in
    let reads = reads_at c.group-pair.ensures c.loop-second.invariant.same c.loop-number.number in
    record { same = inv.same; walk = walk_pair inv.walk reads c.span-distance.result c.orders-number-end.result c.span-distance.ensures c.orders-number-end.ensures c.loop-number-test.false }

pub loop-first-preserved : goal.loop-first-preserved
loop-first-preserved g c =
    let inv = c.loop-second.invariant in
    let count = ap (λ s. s.count) c.loop-first.invariant.same in
    record { same = inv.same; walk = walk_row inv.walk c.loop-first-test.true (omega arith) }

pub returns : goal.returns
returns g c = walk_done c.loop-first.invariant.walk c.loop-first-test.false c.loop-first.self c.loop-first.invariant.same
