use Rattle.std.proofs.Common.{sym}
use Rattle.block.specs.MakingLaws.{made_is}
use Rattle.block.proofs.make.assembled.Goals as goal

pub returns : goal.returns
returns c = sym (made_is _)
