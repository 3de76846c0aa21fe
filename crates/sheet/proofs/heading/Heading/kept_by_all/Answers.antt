use Rattle.std.proofs.Common.{rules}
use Rattle.sheet.proofs.KeepLaws.{all_keep_decided}
use Rattle.sheet.proofs.heading.Heading.kept_by_all.Goals as goal

pub returns : goal.returns
returns c = all_keep_decided c.args.self.inputs c.args.self.outputs c.args.products.now c.all.result (search rules)
