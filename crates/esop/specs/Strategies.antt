-- What each strategy says of a link, and its name.
use Rattle.std.specs.Prelude.{ℕ, List, codes}
use Rattle.esop.specs.Criterion.{Test, reduce, refine}
use Rattle.esop.specs.declared.strategy.Strategy.{Strategy}
use Rattle.esop.specs.declared.strategy.Strategy.TheVariants.{Reduce, Refine}

abbrev pub test_of : Strategy → Test
test_of Reduce = reduce
test_of Refine = refine

abbrev pub name_of : Strategy → List ℕ
name_of Reduce = codes "reduce"
name_of Refine = codes "refine"
