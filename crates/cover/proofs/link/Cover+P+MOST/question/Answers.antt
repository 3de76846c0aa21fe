use Rattle.std.proofs.Common.{◌<◌, ltb, sym, refl, ap, ◌∙◌, arith}
use Rattle.std.proofs.lemmas.List.{length-take-le}
use Rattle.std.proofs.lemmas.Bool.{ltb-true, ltb-false}
use Rattle.esop.specs.Linking.{factorial, span}
use Rattle.cover.specs.Holding.{used, held_of}
use Rattle.cover.specs.Trying.{group_of}
use Rattle.cover.proofs.Attempting.{supplied_enough, supplied_short}
use Rattle.cover.proofs.Judging.{orders_at, orders_none, orders_some, is_group, not_ordered, not_in_use, no_group, no_order, no_work, decides}
use Rattle.cover.proofs.link.Cover+P+MOST.question.Goals as goal

pub returns-then-first-second : goal.returns-then-first-second
returns-then-first-second g c =
    (refl, λ test. not_ordered g.P.Product.meaning test (held_of c.args.self.now) c.args.first c.args.second c.args.number c.args.work (omega arith))

pub returns-then-second-self : goal.returns-then-second-self
returns-then-second-self g c =
    let s = c.args.self.now in
    let long = length-take-le s.count s.places.now (omega arith) in
    (refl, λ test. not_in_use g.P.Product.meaning test (held_of s) c.args.first c.args.second c.args.number c.args.work (omega arith) (omega arith))

pub returns-then-orders-eq0 : goal.returns-then-orders-eq0
returns-then-orders-eq0 g c =
    let m = g.P.Product.meaning in
    let group = group_of c.group-group.result in
    let none = orders_none (span m group) c.orders.result (c.orders.ensures ∙ orders_at c.span-distance.ensures) c.if-orders-eq0.true in
    (refl, λ test. no_group m test (held_of c.args.self.now) c.args.first c.args.second c.args.number c.args.work group c.group-group.ensures (omega arith) none)

pub returns-then-not-is_order : goal.returns-then-not-is_order
returns-then-not-is_order g c =
    let m = g.P.Product.meaning in
    let group = group_of c.group-group.result in
    let some = orders_some (span m group) c.orders.result (c.orders.ensures ∙ orders_at c.span-distance.ensures) c.if-orders-eq0.false in
    let past = ltb-false c.args.number c.orders.result (ap (ltb c.args.number) c.orders.ensures ∙ sym c.is_order.ensures ∙ c.if-not-is_order.true) in
    (refl, λ test. no_order m test (held_of c.args.self.now) c.args.first c.args.second c.args.number c.args.work group c.group-group.ensures (omega arith) some.0 (omega (arith, some.1, past)))

pub returns-then-not-has_work : goal.returns-then-not-has_work
returns-then-not-has_work g c =
    let m = g.P.Product.meaning in
    let s = c.args.self.now in
    let group = group_of c.group-group.result in
    let some = orders_some (span m group) c.orders.result (c.orders.ensures ∙ orders_at c.span-distance.ensures) c.if-orders-eq0.false in
    let numbered = ltb-true c.args.number c.orders.result (ap (ltb c.args.number) c.orders.ensures ∙ sym c.is_order.ensures ∙ c.if-not-is_order.false) in
    let short = supplied_short m s c.args.work c.has_work.result c.has_work.ensures c.if-not-has_work.true in
    let long = length-take-le s.count s.places.now (omega arith) in
    (refl, λ test. no_work m test (held_of s) c.args.first c.args.second c.args.number c.args.work group c.group-group.ensures (omega arith) some.0 (omega (arith, some.1, numbered)) (omega arith))

pub returns : goal.returns
returns g c =
    let m = g.P.Product.meaning in
    let s = c.args.self.now in
    let group = group_of c.group-group.result in
    let some = orders_some (span m group) c.orders.result (c.orders.ensures ∙ orders_at c.span-distance.ensures) c.if-orders-eq0.false in
    let numbered = ltb-true c.args.number c.orders.result (ap (ltb c.args.number) c.orders.ensures ∙ sym c.is_order.ensures ∙ c.if-not-is_order.false) in
    let below : c.args.number < factorial (span m group) = omega (arith, some.1, numbered) in
    let enough = supplied_enough m s c.args.work c.has_work.result c.has_work.ensures c.if-not-has_work.false in
    let long = length-take-le s.count s.places.now (omega arith) in (
      is_group m (used s) c.args.first c.args.second c.args.number group c.group-group.ensures (omega arith) some.0 below,
      enough,
      λ test. decides m test (held_of s) c.args.first c.args.second c.args.number c.args.work group c.group-group.ensures (omega arith) some.0 below (omega arith),
    )
