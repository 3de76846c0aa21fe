-- The line of a run. It begins like a comment, so it may stand before a sheet.
use Rattle.std.specs.Prelude.{ℕ, ◌+◌, cond, List, ◌++◌, length, Some, None, codes, decimal, Option}
use Rattle.esop.specs.declared.ending.End.{End}
use Rattle.esop.specs.declared.ending.End.TheVariants.{Spent, Finished}
use Rattle.esop.specs.declared.strategy.Strategy.{Strategy}
use Rattle.esop.specs.declared.strategy.Strategy.TheVariants.{Reduce, Refine}
use Rattle.sheet.specs.declared.summary.RunSummary.{RunSummary}
use Rattle.sheet.specs.Text.{line}
use Rattle.sheet.specs.Writing.{written, has_room}

abbrev pub start_text : Strategy → List ℕ
start_text Reduce = codes "# reduce tried "
start_text Refine = codes "# refine tried "

abbrev pub ending_text : End → List ℕ
ending_text Finished = line (codes " finished")
ending_text Spent = line (codes " spent")

unfoldable pub run_text : RunSummary → List ℕ
run_text r = start_text r.strategy ++ decimal r.tried ++ codes " kept " ++ decimal r.kept ++ ending_text r.end

-- a text that fits the memory m from place p on goes there, and the place past it is answered; any other leaves the memory as it was
abbrev pub past_within : List ℕ → ℕ → List ℕ → Option ℕ
past_within m p t = cond (has_room m p t) (Some (p + length t)) None

abbrev pub kept_from : List ℕ → ℕ → List ℕ → List ℕ
kept_from m p t = cond (has_room m p t) (written m p t) m
