use Rattle.std.proofs.Common.{rules}
use Rattle.block.specs.SizeLaws.{fewest_is}
use Rattle.block.proofs.sizes.fewest_of.Goals as goal

pub returns-clause-fewest : goal.returns-clause-fewest
returns-clause-fewest c = search (rules, fewest_is)
