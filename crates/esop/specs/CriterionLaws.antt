-- Each criterion says yes only where the cover gets lower.
-- Assumes nothing.
use Rattle.std.proofs.Common.{arith}
use Rattle.std.proofs.lemmas.Bool.Decides.{nat_tests}
use Rattle.esop.specs.Criterion.{Strict, reduce, refine}
use Rattle.esop.specs.Strategies.{test_of}
use Rattle.esop.specs.declared.strategy.Strategy.{Strategy}
use Rattle.esop.specs.declared.strategy.Strategy.TheVariants.{Reduce, Refine}

pub reduce_strict : Strict reduce
reduce_strict k n w n' w' e = grind (arith, nat_tests)

pub refine_strict : Strict refine
refine_strict k n w n' w' e = grind (arith, nat_tests)

pub strategies_strict : (y : Strategy) → Strict (test_of y)
strategies_strict Reduce = reduce_strict
strategies_strict Refine = refine_strict
