use Rattle.std.proofs.Common.{refl, ap, ◌∙◌, arith, rules, tests}
use Rattle.std.proofs.lemmas.Iterator.{YieldsList-from_range}
use Rattle.std.proofs.lemmas.Iterator.Search.{all_from_yields_List}
use Rattle.block.specs.Blocks.{value}
use Rattle.block.specs.Products.{passes}
use Rattle.block.proofs.RangeLaws.{all_range}
use Rattle.block.proofs.block.BlockProduct.lets_through.Goals as goal

pub returns : goal.returns
returns c =
    all_from_yields_List (λ g. passes g (value c.args.self g) c.args.point) _ _ _ c.all.ensures.ran (YieldsList-from_range 0 8 8 refl refl) (λ x b q k. search (rules, tests))
    ∙ all_range (λ g. passes g (value c.args.self g) c.args.point) (λ g. passes g (value c.args.self g) c.args.point) 0 8 (λ j l. ap (λ g. passes g (value c.args.self g) c.args.point) (omega arith))
