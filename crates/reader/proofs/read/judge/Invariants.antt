use Rattle.std.proofs.Common.{◌≡◌, ◌+◌, ◌≤◌, length}
use Rattle.reader.specs.Reading.{verdict, told}
use Rattle.reader.specs.Turns.{judged_at}
use Rattle.reader.proofs.read.judge.Given as goal

abbrev pub invariant-loop-line : goal.invariant-loop-line
invariant-loop-line l =
    (told (judged_at l.reader l.line) ≡ told (verdict l.places l.text)) × (l.line + length l.reader.rest.now ≤ length l.text + 1)

abbrev pub decreases-loop-line : goal.decreases-loop-line
decreases-loop-line l = length l.reader.rest.now
