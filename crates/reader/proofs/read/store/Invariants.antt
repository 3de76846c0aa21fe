use Rattle.std.proofs.Common.{ℕ, length}
use Rattle.reader.specs.Reading.{verdict}
use Rattle.reader.specs.Turns.{judged_at}
use Rattle.reader.proofs.StoreLaws.{Storing}
use Rattle.reader.proofs.read.store.Given as goal

abbrev pub invariant-loop-turn : goal.invariant-loop-turn
invariant-loop-turn l =
    (n : ℕ) × Storing (verdict (length l.initial.list) l.text) l.initial.list l.list l.row (judged_at l.reader n)

abbrev pub decreases-loop-turn : goal.decreases-loop-turn
decreases-loop-turn l = length l.reader.rest.now
