use Rattle.std.proofs.Common.{arith}
use Rattle.expansion.proofs.TableLaws.{mixed_from}
use Rattle.expansion.proofs.halves.fold.Goals as goal

pub returns : goal.returns
returns c =
    mixed_from c.args.upper.now c.args.lower.now c.loop-i.upper c.requires (omega arith) (λ k l. c.loop-i.invariant.xored k (omega arith))
