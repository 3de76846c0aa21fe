use Rattle.std.proofs.Common.{◌≡◌, sum_by, sym, refl, ◌∙◌, rules}
use Rattle.std.proofs.lemmas.List.Recursion.{is_sum_by}
use Rattle.esop.specs.Entering.{total_weight}
use Rattle.cover.proofs.trial.weigh.Goals as goal

pub returns : goal.returns
returns g c =
    let m = g.P.Product.meaning in
    let xs = c.args.products.now in
    let e : c.sum.result ≡ sum_by m.weight xs = search rules in
    e ∙ sym (is_sum_by (total_weight m) m.weight refl (λ x ys. refl) xs)
