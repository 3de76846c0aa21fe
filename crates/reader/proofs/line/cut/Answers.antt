use Rattle.std.proofs.Common.{sym, ◌∙◌}
use Rattle.reader.proofs.LineLaws.{unplaced, is_cut}
use Rattle.reader.proofs.line.cut.Goals as goal

pub returns-in_err-n : goal.returns-in_err-n
returns-in_err-n c = rw c.from_residual.ensures (unplaced _ _ (sym c.place.ensures ∙ c.in_err-n.was))

pub returns : goal.returns
returns c = is_cut _ _ _ (sym c.place.ensures ∙ c.in_ok-n.was)
