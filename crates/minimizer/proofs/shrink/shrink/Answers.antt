use Rattle.std.proofs.Common.{ap}
use Rattle.std.specs.Result.{is_ok}
use Rattle.minimizer.proofs.ShrinkLaws.{run_answers, shrinks_by, three_calls}
use Rattle.minimizer.proofs.shrink.shrink.Goals as goal

pub summary-requires : goal.summary-requires
summary-requires c =
    let served = (rw c.unwrap-count.ensures at c.serve.ensures.all).1 in
    (_, _, (run_answers c.args.places.now c.args.list.now c.args.rows _ _ _ _ _ _ _ c.requires.roomy c.requests-requests.ensures served).0)

pub summary-requires-2 : goal.summary-requires-2
summary-requires-2 c =
    let served = (rw c.unwrap-count.ensures at c.serve.ensures.all).1 in
    (_, _, (run_answers c.args.places.now c.args.list.now c.args.rows _ _ _ _ _ _ _ c.requires.roomy c.requests-requests.ensures served).1)

pub returns : goal.returns
returns c =
    let served = (rw c.unwrap-count.ensures at c.serve.ensures.all).1 in
    let asks = c.requests-requests.ensures in
    record {
      shrinks =
          shrinks_by c.args.places.now c.args.list.now c.args.rows _ _ _ _ _ _ _ _ _ c.requires.roomy asks served c.summary.ensures c.summary-2.ensures;
      work = λ p q.
          c.serve.ensures.work (ap is_ok c.unwrap-count.ensures)
          (three_calls _ _ c.args.rows asks served.calls c.summary.result c.summary-2.result _ c.summary.ensures c.summary-2.ensures p q);
    }
