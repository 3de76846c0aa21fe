use Rattle.std.proofs.Common.{length, ap}
use Rattle.minimizer.proofs.LoadLaws.{loads_by}
use Rattle.minimizer.proofs.loader.enter_rows.Goals as goal

pub returns : goal.returns
returns c =
    loads_by _ _ c.args.text.now _ _ _ _ c.args.heading _ c.requires c.read_sheet.ensures.spells c.read_sheet.ensures.products
    c.enter_all.ensures.reply.held (ap length c.products.ensures) c.enter_all.ensures.loan
