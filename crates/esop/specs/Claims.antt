-- The theorems on covers, links, runs and histories, which `cover_laws` states.
use Rattle.std.specs.Prelude.{◌≡◌, ℕ, ◌+◌, ◌%◌, ◌<◌, ◌≤◌, List, length, take}
use Rattle.esop.specs.Kind.{Meaning, differing}
use Rattle.esop.specs.Criterion.{Test}
use Rattle.esop.specs.Entering.{bit, covering, Apart, seek, arrived, entered, spared_arrived, spared, entered_all}
use Rattle.esop.specs.Linking.{factorial, arranged, occurs, Before, Ascending, link, Group, IsGroup, without, result}
use Rattle.esop.specs.Running.{Outcome, run, kept_of, trial_rows, all_tried, KeptLinks, Runs}
use Rattle.esop.specs.History.{Request, opened, turns, Kept, SomeCriterion}
use Rattle.esop.specs.Lasting.{ValuesLast, HistoriesLast, AllHistoriesLast}

-- what entering p into the cover c keeps
pub record Enters {P : Type 0} (m : Meaning P) (p : P) (c : List P) : Type 0 where
  -- a point is covered an odd number of times afterwards exactly when it was by p and the cover together
  pub parity : (x : ℕ) → covering m x (entered m p c) % 2 ≡ (bit (m.covers p x) + covering m x c) % 2
  pub apart : Apart m c → Apart m (entered m p c)
  pub count : length (entered m p c) ≤ length c + 1
  -- the definition with no number of rounds
  pub steps : entered m p c ≡ arrived m (entered m) p c (seek m p c)
  pub steps_free : (free : List P) → spared m p c free ≡ spared_arrived m (spared m) p c free (seek m p c)
  -- a place that p needs is one of the free ones, and the memory keeps its size
  pub size : (free : List P) → 1 ≤ length free → length (entered m p c) + length (spared m p c free) ≡ length c + length free

abbrev pub EnteringKeeps : {P : Type 0} → Meaning P → Type 0
EnteringKeeps {P} m = (p : P) (c : List P) → Enters m p c

-- what the order numbers of a list of k numbers name
pub record Arranges (ds : List ℕ) : Type 0 where
  -- an arrangement has each number as often as the list
  pub arrangement : (o : ℕ) → o < factorial (length ds) → (j : ℕ) → occurs j (arranged (length ds) o ds) ≡ occurs j ds
  -- a smaller order number names an arrangement that comes before in dictionary order
  pub ordered : (o o' : ℕ) → o < o' → o' < factorial (length ds) → Before (arranged (length ds) o ds) (arranged (length ds) o' ds)
  -- every arrangement has its order number
  pub complete : (zs : List ℕ) → ((j : ℕ) → occurs j zs ≡ occurs j ds) → (o : ℕ) × (o < factorial (length ds)) × (zs ≡ arranged (length ds) o ds)

abbrev pub ArrangingOrders : Type 0
ArrangingOrders = (ds : List ℕ) → Ascending ds → Arranges ds

-- what a link keeps of the cover c
pub record Relinks {P : Type 0} (m : Meaning P) (c : List P) (g : Group P) : Type 0 where
  pub parity : (x : ℕ) → covering m x (result m c g) % 2 ≡ covering m x c % 2
  pub apart : Apart m c → Apart m (result m c g)
  -- the positions are arranged from an ascending list
  pub ascending : Ascending (differing m g.a g.b)
  -- as its products are entered, two places more than the cover has are always enough
  pub room : (j : ℕ) → length (entered_all m (take j (link m g.a g.b g.number)) (without c g)) ≤ length c + 2

abbrev pub LinkingKeeps : {P : Type 0} → Meaning P → Type 0
LinkingKeeps {P} m = (c : List P) (g : Group P) → IsGroup m c g → Relinks m c g

-- what a run keeps
pub record Running {P : Type 0} (m : Meaning P) (test : Test) (budget : ℕ) (c : List P) (r : Outcome P) : Type 0 where
  pub links : KeptLinks m test c (kept_of r.trials) r.cover
  pub runs : Runs m test budget c (kept_of r.trials) r.cover r.ending (trial_rows m r.trials)
  -- the record has every trial
  pub all : all_tried (trial_rows m r.trials) ≡ length r.trials

abbrev pub RunningKeeps : {P : Type 0} → Meaning P → Test → Type 0
RunningKeeps {P} m test = (budget : ℕ) (c : List P) → Running m test budget c (run m test budget c)

-- every history that starts with an opened cover keeps the promise
abbrev pub HistoriesKeep : {P Y : Type 0} → Meaning P → (Y → Test) → Type 0
HistoriesKeep {P} {Y} m keeps = (places : List P) (rs : List (Request P Y)) → Kept m keeps (turns m keeps (opened places) rs)

-- the same where each request brings a criterion of its own
abbrev pub AllHistoriesKeep : {P : Type 0} → Meaning P → Type 0
AllHistoriesKeep m = HistoriesKeep m (λ (y : SomeCriterion). y.test)

-- all of these, for a kind of product and the criteria of a type
pub record CoverLaws {P Y : Type 0} (m : Meaning P) (keeps : Y → Test) : Type 0 where
  pub entering : EnteringKeeps m
  pub arranging : ArrangingOrders
  pub linking : LinkingKeeps m
  pub running : (y : Y) → RunningKeeps m (keeps y)
  pub histories : HistoriesKeep m keeps
  pub all_histories : AllHistoriesKeep m
  -- what holds of the values of all products entered, and is kept by joins, lasts
  pub lasting : ValuesLast m
  pub lasting_histories : HistoriesLast m keeps
  pub lasting_all_histories : AllHistoriesLast m
