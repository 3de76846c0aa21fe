use Rattle.std.proofs.Common.{◌-◌, ◌/◌, ◌++◌, length, ap, ◌∙◌, ap₂, arith}
use Rattle.expansion.specs.Tables.{mixed}
use Rattle.expansion.specs.Expansions.{needed}
use Rattle.std.proofs.lemmas.List.{take-append-drop}
use Rattle.expansion.proofs.TableLaws.{mixed_twice}
use Rattle.expansion.proofs.SplitLaws.{settled}
use Rattle.expansion.proofs.SurveyLaws.{low_part, high_part, sum_part, as_long, few}
use Rattle.expansion.proofs.survey.+survey.Goals as goal

pub survey-low-requires : goal.survey-low-requires
survey-low-requires t c =
    (omega (arith, c.decreases), low_part c.args.k c.args.table.now c.if-k-eq0.false c.requires _ c.split_at_mut-lower.ensures.front)

pub survey-high-requires : goal.survey-high-requires
survey-high-requires t c =
    (omega (arith, c.decreases), high_part c.args.k c.args.table.now c.if-k-eq0.false c.requires _ c.split_at_mut-lower.ensures.back)

pub fold-requires : goal.fold-requires
fold-requires t c =
    let low = c.survey-low.ensures.table ∙ c.split_at_mut-lower.ensures.front in
    let high = c.survey-high.ensures.table ∙ c.split_at_mut-lower.ensures.back in
    as_long (c.args.k - 1) _ _ (low_part c.args.k c.args.table.now c.if-k-eq0.false c.requires _ low) (high_part c.args.k c.args.table.now c.if-k-eq0.false c.requires _ high)

pub survey-sum-requires : goal.survey-sum-requires
survey-sum-requires t c =
    let low = c.survey-low.ensures.table ∙ c.split_at_mut-lower.ensures.front in
    let high = c.survey-high.ensures.table ∙ c.split_at_mut-lower.ensures.back in
    (omega (arith, c.decreases), sum_part c.args.k c.args.table.now c.if-k-eq0.false c.requires _ (c.fold.ensures ∙ ap₂ mixed high low))

pub fold-requires-2 : goal.fold-requires-2
fold-requires-2 t c =
    let low = c.survey-low.ensures.table ∙ c.split_at_mut-lower.ensures.front in
    let high = c.survey-high.ensures.table ∙ c.split_at_mut-lower.ensures.back in
    as_long (c.args.k - 1) _ _ (low_part c.args.k c.args.table.now c.if-k-eq0.false c.requires _ low)
    (sum_part c.args.k c.args.table.now c.if-k-eq0.false c.requires _ (c.survey-sum.ensures.table ∙ c.fold.ensures ∙ ap₂ mixed high low))

pub choose-requires : goal.choose-requires
choose-requires t c =
    let low = c.survey-low.ensures.table ∙ c.split_at_mut-lower.ensures.front in
    let high = c.survey-high.ensures.table ∙ c.split_at_mut-lower.ensures.back in (
      few (c.args.k - 1) _ _ (low_part c.args.k c.args.table.now c.if-k-eq0.false c.requires _ c.split_at_mut-lower.ensures.front) c.survey-low.ensures.count,
      few (c.args.k - 1) _ _ (high_part c.args.k c.args.table.now c.if-k-eq0.false c.requires _ c.split_at_mut-lower.ensures.back) c.survey-high.ensures.count,
      few (c.args.k - 1) _ _ (sum_part c.args.k c.args.table.now c.if-k-eq0.false c.requires _ (c.fold.ensures ∙ ap₂ mixed high low)) c.survey-sum.ensures.count,
    )

pub returns : goal.returns
returns t c =
    let low = c.survey-low.ensures.table ∙ c.split_at_mut-lower.ensures.front in
    let high = c.survey-high.ensures.table ∙ c.split_at_mut-lower.ensures.back in
    let s =
    settled c.args.k c.args.table.now c.if-k-eq0.false c.requires.1 _ _ _
    (c.survey-low.ensures.count ∙ ap (needed (c.args.k - 1)) c.split_at_mut-lower.ensures.front)
    (c.survey-high.ensures.count ∙ ap (needed (c.args.k - 1)) c.split_at_mut-lower.ensures.back)
    (c.survey-sum.ensures.count ∙ ap (needed (c.args.k - 1)) (c.fold.ensures ∙ ap₂ mixed high low)) in
    record {
      split = c.choose.ensures.split ∙ s.0;
      count = c.choose.ensures.count ∙ s.1;
      table =
          ap₂ ◌++◌ low (c.fold-2.ensures ∙ ap₂ mixed (c.survey-sum.ensures.table ∙ c.fold.ensures ∙ ap₂ mixed high low) low ∙ mixed_twice _ _)
          ∙ take-append-drop (length c.args.table.now / 2) c.args.table.now;
    }
