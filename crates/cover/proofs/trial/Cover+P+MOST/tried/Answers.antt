use Rattle.std.proofs.Common.{ap, ◌∙◌}
use Rattle.esop.specs.Entering.{entered_all}
use Rattle.esop.specs.Linking.{link, without, result}
use Rattle.cover.specs.Trying.{group_of}
use Rattle.cover.proofs.trial.Cover+P+MOST.tried.Goals as goal

pub returns : goal.returns
unfolding result
returns g c =
    let m = g.P.Product.meaning in
    let group = group_of c.args.group in
    let start = ap (λ h. h.used) c.adopt.ensures.held ∙ c.products.ensures in
    let less = c.take_out.ensures.list ∙ ap (λ xs. without xs group) start in
    record {
      list = c.enter_link.ensures.list ∙ ap (entered_all m (link m group.a group.b group.number)) less;
      lender = c.enter_link.ensures.loan.lender ∙ c.take_out.ensures.loan.lender ∙ c.adopt.ensures.loan.lender ∙ c.open-list.ensures.lender;
    }
