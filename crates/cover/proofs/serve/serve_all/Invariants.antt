use Rattle.std.proofs.Common.{◌≡◌, length, take}
use Rattle.std.specs.List.{AllByRecursion}
use Rattle.cover.specs.Serving.{Untouched}
use Rattle.cover.proofs.Turning.{Turned}
use Rattle.cover.proofs.serve.serve_all.Given as goal

abbrev pub invariant-loop-i : goal.invariant-loop-i
invariant-loop-i g l =
    record {
      turned : Turned g.P.Product.meaning g.C.Criterion.keeps l.initial.cover.places.now l.list l.requests (length l.initial.work) l.initial.answers l.cover l.answers l.i;
      lender : l.cover.places.ghost_name ≡ l.initial.cover.places.ghost_name;
      work : AllByRecursion Untouched (take l.i l.answers) → l.work ≡ l.initial.work;
    }
