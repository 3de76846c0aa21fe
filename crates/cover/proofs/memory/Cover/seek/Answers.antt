use Rattle.std.proofs.Common.{leb, tests, ◌∙◌, rules}
use Rattle.std.proofs.lemmas.Iterator.{YieldsList-from_slice}
use Rattle.std.proofs.lemmas.Iterator.Search.{position_from_yields_List}
use Rattle.esop.specs.Kind.{distance}
use Rattle.cover.specs.Holding.{used}
use Rattle.cover.proofs.Settling.{position_is}
use Rattle.cover.proofs.memory.Cover.seek.Goals as goal

pub returns : goal.returns
returns g c =
    let m = g.P.Product.meaning in
    let us = used c.args.self.now in
    position_from_yields_List (λ x. leb (distance m c.args.p x) 1) _ _ c.position.result c.position.ensures.ran (YieldsList-from_slice us (cc)) (λ x b q k. search (rules, tests)) ∙ position_is m c.args.p us
