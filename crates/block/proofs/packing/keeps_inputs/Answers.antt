use Rattle.std.proofs.Common.{◌+◌, refl, ◌∙◌, rules, tests}
use Rattle.std.proofs.lemmas.Iterator.{YieldsList-from_range}
use Rattle.std.proofs.lemmas.Iterator.Search.{all_from_yields_List}
use Rattle.cube.specs.Cubes.{form_of}
use Rattle.block.specs.Packing.{is_absent}
use Rattle.block.proofs.RangeLaws.{all_range}
use Rattle.block.proofs.packing.keeps_inputs.Goals as goal

pub returns : goal.returns
returns c =
    all_from_yields_List (λ i. is_absent (form_of c.args.cube.now i)) _ _ _ c.all.ensures.ran (YieldsList-from_range 24 32 8 refl refl) (λ x b q k. search (rules, tests))
    ∙ all_range (λ i. is_absent (form_of c.args.cube.now i)) (λ j. is_absent (form_of c.args.cube.now (24 + j))) 24 8 (λ j l. refl)
