use Rattle.std.proofs.Common.{get_or, set, ap, ◌∙◌, arith}
use Rattle.expander.specs.Printing.{byte_of}
use Rattle.expander.proofs.SpellLaws.{spell_more}
use Rattle.expander.proofs.line.spell.Goals as goal

pub loop-i-preserved : goal.loop-i-preserved
loop-i-preserved c =
    ap (λ t. set t c.loop-i.i (byte_of (get_or c.args.line.now c.loop-i.i 0))) c.loop-i.invariant
    ∙ spell_more c.args.line.now c.args.table.now c.loop-i.i (omega arith) (omega arith)
