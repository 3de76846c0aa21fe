-- What lasts: what holds of the values of all products entered, and is kept where two different values are joined, holds of every product that a
-- cover ever has. So where all products handed in have one and the same value at a position, every product of the cover has it there: an input that
-- no product handed in looks at is one that no product of the cover ever looks at.
use Rattle.std.specs.Prelude.{◌≡◌, ℕ, suc, ◌<◌, Bool, true, List, take, Some, ◌≢◌}
use Rattle.std.specs.List.{slice_get, AllByRecursion}
use Rattle.esop.specs.Kind.{Meaning}
use Rattle.esop.specs.Criterion.{Test}
use Rattle.esop.specs.Entering.{entered_all}
use Rattle.esop.specs.Linking.{Group, IsGroup, result}
use Rattle.esop.specs.Running.{run}
use Rattle.esop.specs.History.{Request, opened, Turn, turns, accepted}

-- f j v: the value v passes at position j. The test f is any.

-- the product passes: its value does at every position
abbrev pub Passes : {P : Type 0} → Meaning P → (ℕ → ℕ → Bool) → P → Type 0
Passes m f p = (j : ℕ) → j < m.width → f j (m.value p j) ≡ true

-- where two different values pass, so does the value that joins them
abbrev pub JoinKeeps : {P : Type 0} → Meaning P → (ℕ → ℕ → Bool) → Type 0
JoinKeeps m f = (j u v : ℕ) → (u ≢ v) → f j u ≡ true → f j v ≡ true → f j (m.mixed j u v) ≡ true

-- a cover whose products all pass stays one
pub record Lasts {P : Type 0} (m : Meaning P) (f : ℕ → ℕ → Bool) : Type 0 where
  -- where products that pass are entered
  pub entering : (ps c : List P) → AllByRecursion (Passes m f) ps → AllByRecursion (Passes m f) c → AllByRecursion (Passes m f) (entered_all m ps c)
  -- where the link of one of its groups is made
  pub linking : (c : List P) (g : Group P) → IsGroup m c g → AllByRecursion (Passes m f) c → AllByRecursion (Passes m f) (result m c g)
  -- over a run, whatever its criterion says
  pub running : (test : Test) (budget : ℕ) (c : List P) → AllByRecursion (Passes m f) c → AllByRecursion (Passes m f) (run m test budget c).cover

-- so it is for every test that joins keep
abbrev pub ValuesLast : {P : Type 0} → Meaning P → Type 0
ValuesLast m = (f : ℕ → ℕ → Bool) → JoinKeeps m f → Lasts m f

-- at every turn: where all products accepted so far pass, so do all that are in use after it
abbrev pub LastsOver : {P Y : Type 0} → Meaning P → (ℕ → ℕ → Bool) → List (Turn P Y) → Type 0
LastsOver {P} {Y} m f ts = (n : ℕ) (t : Turn P Y) → slice_get ts n ≡ Some t → AllByRecursion (Passes m f) (accepted (take (suc n) ts)) → AllByRecursion (Passes m f) t.after.used

-- the same over every history that starts with an opened cover
abbrev pub HistoriesLast : {P Y : Type 0} → Meaning P → (Y → Test) → Type 0
HistoriesLast {P} {Y} m keeps = (f : ℕ → ℕ → Bool) → JoinKeeps m f → (places : List P) (rs : List (Request P Y)) → LastsOver m f (turns m keeps (opened places) rs)

-- whatever the criterion of each request says
abbrev pub AllHistoriesLast : {P : Type 0} → Meaning P → Type 0
AllHistoriesLast m = HistoriesLast m (λ (test : Test). test)
