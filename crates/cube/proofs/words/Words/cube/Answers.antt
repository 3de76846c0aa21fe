use Rattle.std.proofs.Common.{sym}
use Rattle.cube.specs.MakingLaws.{made_is}
use Rattle.cube.proofs.words.Words.cube.Goals as goal

pub returns : goal.returns
returns c = sym (made_is _)
