-- The printout of a sheet that was shrunk: a line for each run, and the sheet.
use Rattle.std.specs.Prelude.{ℕ, cond, List, ◌++◌, length, Some, None, Ok, Err, Option, Result}
use Rattle.cube.specs.declared.cube.Cube.{Cube}
use Rattle.sheet.specs.Reporting.{run_text}
use Rattle.sheet.specs.Text.{sheet_text}
use Rattle.sheet.specs.Writing.{has_room, memory_left, in_range, all_keep}
use Rattle.sheet.specs.declared.state.WriteRefusal.{WriteRefusal}
use Rattle.sheet.specs.declared.state.WriteRefusal.TheVariants.{Range, Full, OutOfHeading}
use Rattle.sheet.specs.declared.summary.RunSummary.{RunSummary}

-- the lines of two runs
abbrev pub runs_text : RunSummary → RunSummary → List ℕ
runs_text r s = run_text r ++ run_text s

abbrev pub printout_text : ℕ → ℕ → RunSummary → RunSummary → List Cube → List ℕ
printout_text i o r s cs = runs_text r s ++ sheet_text i o cs

-- Questions 27, 29 of each product, and 28 of it all: are the numbers of the heading in range? Does each product keep to its inputs and outputs? Does
-- the printout fit the memory?
abbrev pub printout_refusal : List ℕ → ℕ → ℕ → RunSummary → RunSummary → List Cube → Option WriteRefusal
printout_refusal m i o r s cs =
    cond (in_range i o (length cs))
    (cond (all_keep i o cs) (cond (has_room m 0 (printout_text i o r s cs)) None (Some Full)) (Some OutOfHeading))
    (Some Range)

-- its length is answered
abbrev pub printout_answer : List ℕ → ℕ → ℕ → RunSummary → RunSummary → List Cube → Result ℕ WriteRefusal
printout_answer m i o r s cs =
    elim (printout_refusal m i o r s cs) [ None ↦ Ok (length (printout_text i o r s cs)) | Some why ↦ Err why ]

-- it stands at the start of the memory, which a refusal leaves as it was
abbrev pub printout_memory : List ℕ → ℕ → ℕ → RunSummary → RunSummary → List Cube → List ℕ
printout_memory m i o r s cs = memory_left (printout_refusal m i o r s cs) m 0 (printout_text i o r s cs)
