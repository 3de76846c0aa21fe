use Rattle.std.proofs.Common.{ap, ◌∙◌, arith}
use Rattle.cube.specs.Positions.{taken_words}
use Rattle.cube.specs.PositionLaws.{taken_full}
use Rattle.cube.proofs.cube.Cube.replaced.Goals as goal

pub cube-requires-clause-full : goal.cube-requires-clause-full
cube-requires-clause-full c =
    taken_full c.args.self c.args.other c.args.i c.taken.result (c.taken.ensures ∙ ap (λ w. taken_words w c.args.i c.args.other) c.words.ensures)
    (omega arith, omega arith) c.requires.position c.requires.some
