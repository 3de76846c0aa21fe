use Rattle.std.proofs.Common.{◌<◌, ◌+◌, length, set, Ok, sym, ap, ◌∙◌, subst, arith}
use Rattle.reader.specs.Reading.{verdict, stored}
use Rattle.reader.specs.Turns.{Turned, judged_at}
use Rattle.reader.proofs.StoreLaws.{Storing, products_of, few, read_judged, storing_more, storing_all}
use Rattle.reader.proofs.read.store.Goals as goal

pub returns-in-Ended : goal.returns-in-Ended
returns-in-Ended c =
    let q = read_judged (length c.args.list.now) c.args.text.now c.requires in
    let t = subst (λ u. Turned c.loop-turn.reader c.turn.new.self (Ok u)) c.in-Ended.is c.in-Ok.ensures in
    storing_all _ _ _ _ _ _ q.1 (t c.loop-turn.invariant.0) c.loop-turn.invariant.1 ∙ ap (stored c.args.list.now) (sym q.2)

-- the row that is stored is one of those that the text has
more : (c : goal.In-Product) → (c.loop-turn.row < length (products_of (verdict (length c.args.list.now) c.args.text.now)))
    × Storing (verdict (length c.args.list.now) c.args.text.now) c.args.list.now (set c.loop-turn.list c.loop-turn.row c.in-Product.product) (c.loop-turn.row + 1)
    (judged_at c.turn.new.self (c.loop-turn.invariant.0 + 1))
more c =
    let t = subst (λ u. Turned c.loop-turn.reader c.turn.new.self (Ok u)) c.in-Product.is c.in-Ok.ensures in
    storing_more _ _ _ _ _ _ _ (t.0 c.loop-turn.invariant.0) (few (length c.args.list.now) c.args.text.now).1 c.loop-turn.invariant.1

pub bounds-list-row : goal.bounds-list-row
bounds-list-row c = let m = more c in let f = few (length c.args.list.now) c.args.text.now in omega arith

pub loop-turn-preserved : goal.loop-turn-preserved
loop-turn-preserved c = (c.loop-turn.invariant.0 + 1, (more c).1)
