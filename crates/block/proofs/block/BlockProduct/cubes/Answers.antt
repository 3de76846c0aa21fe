use Rattle.std.proofs.Common.{rules, arith}
use Rattle.std.proofs.lemmas.Iterator.{YieldsList-from_slice, YieldsList-from_map}
use Rattle.block.specs.Sizes.{size_of}
use Rattle.block.specs.MakingLaws.{bytes_length}
use Rattle.block.proofs.WeightLaws.{weight_fits, weight_is}
use Rattle.block.proofs.block.BlockProduct.cubes.Goals as goal

pub product-requires-clause-fits : goal.product-requires-clause-fits
product-requires-clause-fits c =
    let l = bytes_length c.args.self in
    weight_fits c.args.self.bytes c.map.result (YieldsList-from_map _ size_of (YieldsList-from_slice c.args.self.bytes cc) c.map.ensures.closure (λ x r q k. search rules)) (omega arith)

pub returns : goal.returns
returns c =
    weight_is c.args.self.bytes c.map.result (YieldsList-from_map _ size_of (YieldsList-from_slice c.args.self.bytes cc) c.map.ensures.closure (λ x r q k. search rules)) _ c.product.ensures.ran
