-- Shrinking a cover: the rows of a sheet are entered into an empty cover, over which Reduce runs and then Refine.
use Rattle.std.specs.Prelude.{◌≡◌, ℕ, ◌+◌, ◌≤◌, min, List, [], ◌∷◌, map, length, take}
use Rattle.esop.specs.Criterion.{reduce, refine}
use Rattle.esop.specs.Entering.{entered_all}
use Rattle.esop.specs.Running.{Rows, Outcome, run, trial_rows, all_tried, all_kept}
use Rattle.esop.specs.History.{Answer, counted, ran, Request, enter_list, run_by, Turn, opened, turns, memory, left, Sound, Kept}
use Rattle.esop.specs.Strategies.{test_of}
use Rattle.esop.specs.declared.strategy.Strategy.{Strategy}
use Rattle.esop.specs.declared.strategy.Strategy.TheVariants.{Reduce, Refine}
use Rattle.cube.specs.Positions.{cubes}
use Rattle.cube.specs.declared.cube.Cube.{Cube}
use Rattle.cover.specs.declared.serve.Request.{Request as Code}
use Rattle.cover.specs.declared.serve.Request.TheVariants as code
use Rattle.sheet.specs.declared.summary.RunSummary.{RunSummary}
use Rattle.minimizer.specs.declared.shrink.Shrunk.{Shrunk}
use Rattle.esop.specs.declared.ending.End.{End}

-- the run of Reduce over the cover of the rows, and the run of Refine over what it leaves
unfoldable pub reduced_run : List Cube → Outcome Cube
reduced_run rows = run cubes reduce 1000000 (entered_all cubes rows [])

unfoldable pub refined_run : List Cube → Outcome Cube
refined_run rows = run cubes refine 1000000 (reduced_run rows).cover

-- the products that are left in the end
abbrev pub shrunk : List Cube → List Cube
shrunk rows = (refined_run rows).cover

-- a run in few words: its counts are the sums over the rows of its record
abbrev pub summary_by : Strategy → End → Rows → RunSummary
summary_by y e s = record { strategy = y; tried = all_tried s; kept = all_kept s; end = e }

abbrev pub summary_of : Strategy → Outcome Cube → RunSummary
summary_of y r = summary_by y r.ending (trial_rows cubes r.trials)

abbrev pub reduced_summary : List Cube → RunSummary
reduced_summary rows = summary_of Reduce (reduced_run rows)

abbrev pub refined_summary : List Cube → RunSummary
refined_summary rows = summary_of Refine (refined_run rows)

-- the answer is of a run
abbrev pub OfRun : Answer → Type 0
OfRun a = (e : End) × (s : Rows) × (a ≡ ran e s)

-- r tells of the run that the answer is of
abbrev pub Tells : Strategy → Answer → RunSummary → Type 0
Tells y a r = (e : End) (s : Rows) → a ≡ ran e s → r ≡ summary_by y e s

-- the load and the two runs as the requests of a history, with so many places of work memory
abbrev pub requests : List Cube → ℕ → List (Request Cube Strategy)
requests rows work = enter_list rows ∷ run_by Reduce 1000000 work ∷ run_by Refine 1000000 work ∷ []

-- the same as the code asks for them, of the first n products of a list
abbrev pub asks : ℕ → List (Code Cube Strategy)
asks n = code.EnterAll 0 n ∷ code.Run Reduce 1000000 ∷ code.Run Refine 1000000 ∷ []

unfoldable pub log : List Cube → List Cube → ℕ → List (Turn Cube Strategy)
log places rows work = turns cubes test_of (opened places) (requests rows work)

-- what the places hold after them
abbrev pub places_left : List Cube → List Cube → ℕ → List Cube
places_left places rows work = memory (left (opened places) (log places rows work))

-- there is a place for each row, and work memory for each cover that the runs come to
pub record Roomy (places rows : List Cube) (n : ℕ) : Type 0 where
  pub room : length rows ≤ min 960 (length places)
  pub work : length rows + 2 ≤ n

-- The history, where there is room: each request is accepted, and the products that are left stand for the rows.
pub record Logged (places rows : List Cube) (work : ℕ) : Type 0 where
  pub answers : map (λ t. t.answer) (log places rows work)
      ≡ counted (length (entered_all cubes rows [])) ∷ ran (reduced_run rows).ending (trial_rows cubes (reduced_run rows).trials)
      ∷ ran (refined_run rows).ending (trial_rows cubes (refined_run rows).trials) ∷ []
  pub left_in_use : (left (opened places) (log places rows work)).used ≡ shrunk rows
  -- a point is covered an odd number of times by them exactly when it is by the rows; they are at distance two or more, and no more than the rows
  pub sound : Sound cubes rows (shrunk rows)

-- the rows were shrunk on the places before, which leaves the places after
pub record Shrinks (before rows : List Cube) (work : ℕ) (r : Shrunk) (after : List Cube) : Type 0 where
  pub count : r.count ≡ length (shrunk rows)
  pub reduced : r.reduced ≡ reduced_summary rows
  pub refined : r.refined ≡ refined_summary rows
  pub places : after ≡ places_left before rows work
  pub products : take (length (shrunk rows)) after ≡ shrunk rows
  pub within : length (shrunk rows) ≤ length after
  -- the promise of every history
  pub promise : Kept cubes test_of (log before rows work)
  pub logged : Logged before rows work
