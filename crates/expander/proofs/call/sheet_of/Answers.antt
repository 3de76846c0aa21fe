use Rattle.std.proofs.Common.{arith, rules}
use Rattle.expander.proofs.SheetLaws.{too_long}
use Rattle.expander.proofs.call.sheet_of.Goals as goal

pub returns-then-n-gt1024 : goal.returns-then-n-gt1024
returns-then-n-gt1024 c = too_long c.args.line.now c.args.text.now _ (omega arith) (search rules)
