-- Shrinking the sheet of a text, through lent memory.
use Rattle.std.specs.Prelude.{◌≡◌, ℕ, ◌+◌, ◌≤◌, min, cond, List, length, take, Ok, Err, Result, nat_le}
use Rattle.cube.specs.declared.cube.Cube.{Cube}
use Rattle.esop.specs.History.{Kept}
use Rattle.esop.specs.Strategies.{test_of}
use Rattle.cube.specs.Positions.{cubes}
use Rattle.reader.specs.Reading.{Sheet}
use Rattle.reader.specs.declared.state.Refused.{Refused}
use Rattle.minimizer.specs.declared.refusal.LoadRefusal.{LoadRefusal}
use Rattle.minimizer.specs.declared.refusal.MinimizeRefusal.{MinimizeRefusal}
use Rattle.minimizer.specs.declared.refusal.MinimizeRefusal.TheVariants.{Load, NoWork}
use Rattle.minimizer.specs.declared.report.Minimized.{Minimized}
use Rattle.minimizer.specs.Loading.{loadable, stored_or}
use Rattle.minimizer.specs.Shrinking.{shrunk, reduced_summary, refined_summary, log, places_left, Logged}

-- Question 6, after those of loading: has the work memory two places more than the text has rows? So no run lacks any.
abbrev pub workable : ℕ → Result Sheet LoadRefusal → Result Sheet MinimizeRefusal
workable work (Ok s) = cond (nat_le (s.heading.rows + 2) work) (Ok s) (Err NoWork)
workable work (Err e) = Err (Load e)

-- the sheet that is shrunk, with so many places for its cover and in the work memory, or why none is
abbrev pub shrinkable : ℕ → ℕ → Result Sheet Refused → Result Sheet MinimizeRefusal
shrinkable places work r = workable work (loadable (min 960 places) r)

abbrev pub minimized_of : Sheet → Minimized
minimized_of s =
    record {
      heading = s.heading;
      count = length (shrunk s.products);
      reduced = reduced_summary s.products;
      refined = refined_summary s.products;
    }

abbrev pub minimized_answer : Result Sheet MinimizeRefusal → Result Minimized MinimizeRefusal
minimized_answer (Ok s) = Ok (minimized_of s)
minimized_answer (Err e) = Err e

-- what the places hold: of a sheet that is shrunk what its history leaves, else what they held
abbrev pub places_after : List Cube → ℕ → Result Sheet MinimizeRefusal → List Cube
places_after places work (Ok s) = places_left places s.products work
places_after places work (Err e) = places

-- the history of a sheet that is shrunk keeps its promise, and what it leaves stands for the rows
abbrev pub Promised : List Cube → ℕ → Result Sheet MinimizeRefusal → Type 0
Promised places work (Ok s) = Kept cubes test_of (log places s.products work) × Logged places s.products work
Promised places work (Err e) = Unit {0}

-- the products that are left are the first of the places
abbrev pub FirstLeft : List Cube → Result Sheet MinimizeRefusal → Type 0
FirstLeft q (Ok s) = (take (length (shrunk s.products)) q ≡ shrunk s.products) × (length (shrunk s.products) ≤ length q)
FirstLeft q (Err e) = Unit {0}

-- what a sheet, or a refusal, comes to: the answer, the places from p to q, and the list from l to k
pub record Minimizes (x : Result Sheet MinimizeRefusal) (p l : List Cube) (work : ℕ) (r : Result Minimized MinimizeRefusal) (q k : List Cube) : Type 0 where
  pub answer : r ≡ minimized_answer x
  pub places : q ≡ places_after p work x
  pub first : FirstLeft q x
  pub list : k ≡ stored_or l x
  pub promise : Promised p work x

-- no group was tried, so that the work memory is as it was
abbrev pub Untried : Result Minimized MinimizeRefusal → Type 0
Untried (Ok m) = (m.reduced.tried ≡ 0) × (m.refined.tried ≡ 0)
Untried (Err e) = Unit {0}
