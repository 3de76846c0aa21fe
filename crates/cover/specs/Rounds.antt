-- A round of a run tries the groups of one cover, up to the first link that is kept.
use Rattle.std.specs.Prelude.{◌≡◌, ℕ, ◌+◌, ◌-◌, ◌<◌, ◌≤◌, List, Some, None, Option}
use Rattle.esop.specs.Kind.{Meaning}
use Rattle.esop.specs.Criterion.{Test}
use Rattle.esop.specs.Running.{Row, Rows, Outcome, run, trial_rows, all_tried}
use Rattle.esop.specs.declared.ending.End.{End}
use Rattle.esop.specs.History.{Held, Reply, ran, after_run}
use Rattle.cover.specs.Holding.{used, held_of, SameLoan}
use Rattle.cover.specs.Calls.{Replied}
use Rattle.cover.specs.Recording.{rows_of, Sensible}
use Rattle.cover.specs.declared.memory.Cover.{Cover}
use Rattle.cover.specs.declared.record.Record.{Record}

abbrev pub plus_row : Row → Row → Row
plus_row s t = record { tried = s.tried + t.tried; kept = s.kept + t.kept }

-- two records added up
abbrev pub plus : Rows → Rows → Rows
plus s t = record { two = plus_row s.two t.two; three = plus_row s.three t.three; four = plus_row s.four t.four }

-- the reply of a run that has the record s, holds h, and goes on to the outcome r
abbrev pub final : {P : Type 0} → Meaning P → Held P → Rows → Outcome P → Reply P
final m h s r = record { answer = ran r.ending (plus s (trial_rows m r.trials)); held = after_run m h r }

-- the record has room for the trials that the budget still allows
pub record Fit (budget : ℕ) (tally : Record) : Type 0 where
  pub within : all_tried (rows_of tally) ≤ budget
  pub sensible : Sensible (rows_of tally)

-- A run that started with the cover start and the work memory before has come to the cover c, a record and a work memory. It
-- begins with the first group again, and goes on to the reply.
pub record Going {P : Type 0} {N : ℕ} (m : Meaning P) (test : Test) (budget : ℕ) (reply : Reply P) (start : Cover P N) (before : List P) (c : Cover P N) (tally : Record) (work : List P) : Type 0 where
  pub is : final m (held_of c) (rows_of tally) (run m test (budget - all_tried (rows_of tally)) (used c)) ≡ reply
  pub fit : Fit budget tally
  pub few : c.count ≤ start.count
  pub unused : all_tried (rows_of tally) ≡ 0 → work ≡ before
  pub loan : SameLoan start c

-- such a run has ended with the reply
pub record Ended {P : Type 0} {N : ℕ} (reply : Reply P) (start : Cover P N) (before : List P) (c : Cover P N) (e : End) (tally : Record) (work : List P) : Type 0 where
  pub replies : Replied reply (ran e (rows_of tally)) c
  pub unused : all_tried (rows_of tally) ≡ 0 → work ≡ before
  pub loan : SameLoan start c

-- A round kept a link, from which the run goes on, or it ended the run.
abbrev pub Stopped : {P : Type 0} {N : ℕ} → Meaning P → Test → ℕ → Cover P N → Record → List P → Cover P N → Record → List P → Option End → Type 0
Stopped {P} {N} m test budget c tally work d tally' work' None =
    ((reply : Reply P) (start : Cover P N) (before : List P) → Going m test budget reply start before c tally work → Going m test budget reply start before d tally' work')
    × (all_tried (rows_of tally) < all_tried (rows_of tally'))
    × (all_tried (rows_of tally') ≤ budget)
Stopped {P} {N} m test budget c tally work d tally' work' (Some e) =
    (reply : Reply P) (start : Cover P N) (before : List P) → Going m test budget reply start before c tally work → Ended reply start before d e tally' work'
