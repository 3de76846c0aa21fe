use Rattle.std.proofs.Common.{rules}
use Rattle.sheet.specs.Text.{keeps_at}
use Rattle.sheet.proofs.KeepLaws.{asked_everywhere}
use Rattle.sheet.proofs.heading.Heading.kept_by.Goals as goal

pub returns : goal.returns
returns c =
    let run = c.all.ensures.runs in
    asked_everywhere run.0 _ _ (keeps_at c.args.self.inputs c.args.self.outputs c.args.product.now) 32 c.all.result run.1 (search rules) (search rules) run.2
