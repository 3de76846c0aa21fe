use Rattle.esop.specs.Criterion.{Test}
use Rattle.esop.specs.History.{SomeCriterion}
use Rattle.esop.proofs.Arranging.{arranges}
use Rattle.esop.proofs.Entering.{enters}
use Rattle.esop.proofs.History.{histories_keep}
use Rattle.esop.proofs.Lasting.{values_last, histories_last}
use Rattle.esop.proofs.Linking.{relinks}
use Rattle.esop.proofs.Running.{running}
use Rattle.esop.proofs.laws.proved.Goals as goal

pub returns : goal.returns
returns g c =
    let m = g.P.Product.meaning in
    let laws = g.met.P.Product.lawful in
    let keeps = g.C.Criterion.keeps in
    let strict = g.met.C.Criterion.strict in
    record {
      entering = enters m laws;
      arranging = arranges;
      linking = relinks m laws;
      running = λ y. running m (keeps y) (strict y);
      histories = histories_keep m laws keeps strict;
      all_histories = histories_keep m laws (λ (y : SomeCriterion). y.test) (λ y. y.strict);
      lasting = values_last m laws;
      lasting_histories = histories_last m laws keeps;
      lasting_all_histories = histories_last m laws (λ (test : Test). test);
    }
