-- The line of a run.
-- Assumes nothing.
use Rattle.std.proofs.Common.{◌≡◌, ◌+◌, ◌++◌, length, codes, decimal, refl, arith, length-append}
use Rattle.esop.specs.declared.strategy.Strategy.{Strategy}
use Rattle.esop.specs.declared.strategy.Strategy.TheVariants.{Reduce, Refine}
use Rattle.sheet.specs.declared.summary.RunSummary.{RunSummary}
use Rattle.sheet.specs.Reporting.{start_text, ending_text, run_text}

pub start_length : (s : Strategy) → length (start_text s) ≡ 15
start_length Reduce = refl
start_length Refine = refl

pub run_length : (r : RunSummary) → length (run_text r) ≡ length (decimal r.tried) + length (decimal r.kept) + length (ending_text r.end) + 21
unfolding run_text
run_length r =
    let a = start_text r.strategy in
    let t = decimal r.tried in
    let k = decimal r.kept in
    let e = length-append (a ++ t ++ codes " kept " ++ k) (ending_text r.end) in
    let f = length-append (a ++ t ++ codes " kept ") k in
    let g = length-append (a ++ t) (codes " kept ") in
    let h = length-append a t in
    let s = start_length r.strategy in
    omega arith
