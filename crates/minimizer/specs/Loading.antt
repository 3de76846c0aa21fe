-- Loading the rows of a text into a cover, through a list.
use Rattle.std.specs.Prelude.{◌≡◌, ℕ, cond, List, length, Ok, Err, Result, nat_le}
use Rattle.esop.specs.History.{Held, admitted}
use Rattle.cube.specs.Positions.{cubes}
use Rattle.cube.specs.declared.cube.Cube.{Cube}
use Rattle.cover.specs.Holding.{held_of, spare, SameLoan}
use Rattle.cover.specs.declared.memory.Cover.{Cover}
use Rattle.reader.specs.Reading.{Sheet, stored}
use Rattle.sheet.specs.declared.heading.Heading.{Heading}
use Rattle.reader.specs.declared.state.Refused.{Refused}
use Rattle.minimizer.specs.declared.refusal.LoadRefusal.{LoadRefusal}
use Rattle.minimizer.specs.declared.refusal.LoadRefusal.TheVariants.{Unread, NoPlace}
use Rattle.minimizer.specs.declared.report.Loaded.{Loaded}

-- Questions 26 and 1: was the text read? Has a cover with so many free places one for each row?
abbrev pub loadable : ℕ → Result Sheet Refused → Result Sheet LoadRefusal
loadable spare (Err e) = Err Unread
loadable spare (Ok s) = cond (nat_le s.heading.rows spare) (Ok s) (Err NoPlace)

abbrev pub heading_or : {E : Type 0} → Result Sheet E → Result Heading E
heading_or (Ok s) = Ok s.heading
heading_or (Err e) = Err e

-- the cover after the rows are entered in turn
abbrev pub loaded_held : Held Cube → Result Sheet LoadRefusal → Held Cube
loaded_held h (Ok s) = (admitted cubes h s.products).held
loaded_held h (Err e) = h

abbrev pub loaded_answer : Held Cube → Result Sheet LoadRefusal → Result Loaded LoadRefusal
loaded_answer h (Ok s) = Ok (record { heading = s.heading; count = length (loaded_held h (Ok s)).used })
loaded_answer h (Err e) = Err e

-- the list holds the rows of a text that is loaded from its start on
abbrev pub stored_or : {E : Type 0} → List Cube → Result Sheet E → List Cube
stored_or list (Ok s) = stored list (Ok s)
stored_or list (Err e) = list

-- what a sheet, or a refusal, comes to: the answer, the cover from c to d, and the list from l to k
pub record Loads {N : ℕ} (x : Result Sheet LoadRefusal) (c : Cover Cube N) (l : List Cube) (r : Result Loaded LoadRefusal) (d : Cover Cube N) (k : List Cube) : Type 0 where
  pub answer : r ≡ loaded_answer (held_of c) x
  pub held : held_of d ≡ loaded_held (held_of c) x
  pub list : k ≡ stored_or l x
  pub loan : SameLoan c d
