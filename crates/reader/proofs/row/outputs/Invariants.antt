use Rattle.std.proofs.Common.{◌≡◌, ◌^◌, ◌<◌, length, map, reverse, Some}
use Rattle.reader.specs.Rows.{driven_word}
use Rattle.reader.proofs.row.outputs.Given as goal

abbrev pub invariant-loop-output : goal.invariant-loop-output
invariant-loop-output l = (l.word < 2 ^ length l.yielded) × (driven_word (reverse (map (λ b. b.now) l.yielded)) ≡ Some l.word)
