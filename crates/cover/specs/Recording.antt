-- The record of a run, and what a run owes.
use Rattle.std.specs.Prelude.{◌≡◌, ℕ, ◌+◌, ◌<◌, ◌≤◌, Bool, true, false, cond, Ok, Err, Result, ◌==◌, slice_index_or}
use Rattle.esop.specs.Kind.{Meaning}
use Rattle.esop.specs.Criterion.{Test}
use Rattle.esop.specs.Entering.{bit}
use Rattle.esop.specs.Running.{Row, Rows, all_tried, run}
use Rattle.esop.specs.declared.ending.End.{End}
use Rattle.esop.specs.History.{Answer, refused, refuse, ran, reported, ran_by}
use Rattle.cover.specs.Holding.{used, held_of, IsEnough}
use Rattle.cover.specs.declared.memory.Cover.{Cover}
use Rattle.cover.specs.declared.record.Row.{Row as Tally}
use Rattle.cover.specs.declared.record.Record.{Record}
use Rattle.cover.specs.declared.run.RunRefusal.{RunRefusal}
use Rattle.cover.specs.declared.run.RunRefusal.TheVariants.{NoWork}

abbrev pub no_tally : Tally
no_tally = record { tried = 0; kept = 0 }

abbrev pub row_of : Tally → Row
row_of t = record { tried = t.tried; kept = t.kept }

abbrev pub rows_of : Record → Rows
rows_of r = record { two = row_of (slice_index_or r.rows 0 no_tally); three = row_of (slice_index_or r.rows 1 no_tally); four = row_of (slice_index_or r.rows 2 no_tally) }

abbrev pub blank : Rows
blank = record { two = record { tried = 0; kept = 0 }; three = record { tried = 0; kept = 0 }; four = record { tried = 0; kept = 0 } }

-- a row with one more group, of that row or another, whose link was kept or not
abbrev pub row_noted : Bool → Bool → Row → Row
row_noted here kept s = record { tried = s.tried + bit here; kept = s.kept + cond kept (bit here) 0 }

-- one more group, at distance k
abbrev pub noted : ℕ → Bool → Rows → Rows
noted k kept s = record { two = row_noted (k == 2) kept s.two; three = row_noted (k == 3) kept s.three; four = row_noted (k == 4) kept s.four }

-- no row has more groups kept than tried
pub record Sensible (s : Rows) : Type 0 where
  pub two : s.two.kept ≤ s.two.tried
  pub three : s.three.kept ≤ s.three.tried
  pub four : s.four.kept ≤ s.four.tried

-- the number of the question that was answered with no
abbrev pub run_number : RunRefusal → ℕ
run_number NoWork = 6

abbrev pub run_answer : Result (End × Record) RunRefusal → Answer
run_answer (Ok r) = ran r.0 (rows_of r.1)
run_answer (Err e) = refused (run_number e)

-- no group was tried
abbrev pub idle : Result (End × Record) RunRefusal → Type 0
idle (Ok r) = all_tried (rows_of r.1) ≡ 0
idle (Err e) = Unit {0}

-- Question 6 was answered, whatever the criterion and the budget are.
abbrev pub Supplied : {P : Type 0} {N : ℕ} → Meaning P → Cover P N → ℕ → Bool → Type 0
Supplied m c work true = IsEnough c work × ((test : Test) (budget : ℕ) → ran_by m test (held_of c) budget work ≡ reported m (held_of c) (run m test budget (used c)))
Supplied m c work false = (work < c.count + 2) × ((test : Test) (budget : ℕ) → ran_by m test (held_of c) budget work ≡ refuse 6 (held_of c))
