-- Histories: requests answered one after the other on one cover, and what is promised of them.
use Rattle.std.specs.Prelude.{◌≡◌, ℕ, suc, ◌+◌, ◌%◌, ◌≤◌, min, cond, List, [], ◌∷◌, ◌++◌, length, take, drop, Some, None, Option, nat_le, nat_lt, slice_index_or}
use Rattle.std.specs.List.{slice_get}
use Rattle.esop.specs.Kind.{Meaning, distance}
use Rattle.esop.specs.Criterion.{Test, Strict}
use Rattle.esop.specs.Entering.{covering, Apart, entered_all, spared_all}
use Rattle.esop.specs.Linking.{factorial, Group, result, says}
use Rattle.esop.specs.Running.{spans, Rows, Outcome, run, kept_of, trial_rows, KeptLinks, Runs}
use Rattle.esop.specs.declared.ending.End.{End}

-- What is asked of a cover. A link names its criterion, two places and an order number, a run its criterion and a budget; the last number of
-- each is that of the places of the work memory.
pub data Request (P Y : Type 0) : Type 0 where
  enter : P → Request P Y
  enter_list : List P → Request P Y
  link_by : Y → ℕ → ℕ → ℕ → ℕ → Request P Y
  run_by : Y → ℕ → ℕ → Request P Y

-- The new count; or the number of the question that was answered with no; or how a run ended, and its record.
pub data Answer : Type 0 where
  counted : ℕ → Answer
  refused : ℕ → Answer
  ran : End → Rows → Answer

-- The state of a cover: what its places hold, those in use and those that are free.
pub record Held (P : Type 0) : Type 0 where
  pub used : List P
  pub free : List P

abbrev pub memory : {P : Type 0} → Held P → List P
memory h = h.used ++ h.free

-- how many places may be in use
abbrev pub room : {P : Type 0} → Held P → ℕ
room h = min 960 (length (memory h))

-- a cover that is opened on a memory is empty
abbrev pub opened : {P : Type 0} → List P → Held P
opened places = record { used = []; free = places }

pub record Reply (P : Type 0) : Type 0 where
  pub answer : Answer
  pub held : Held P

abbrev pub accept : {P : Type 0} → Held P → Reply P
accept h = record { answer = counted (length h.used); held = h }

-- a refusal changes nothing
abbrev pub refuse : {P : Type 0} → ℕ → Held P → Reply P
refuse q h = record { answer = refused q; held = h }

-- another cover written over the first places of the memory
abbrev pub replaced : {P : Type 0} → Held P → List P → Held P
replaced h c = record { used = c; free = drop (length c) (memory h) }

-- Question 1: is there a place for each of the products?
abbrev pub admitted : {P : Type 0} → Meaning P → Held P → List P → Reply P
admitted m h ps =
    cond (nat_le (length h.used + length ps) (room h)) (accept (record { used = entered_all m ps h.used; free = spared_all m ps h.used h.free })) (refuse 1 h)

-- Questions 4 to 7: is the distance from 2 to 4? Is the order number below the factorial of the distance? Does the work memory have at least two places
-- more than are in use? Does the criterion say yes?
unfoldable pub judged : {P : Type 0} → Meaning P → Test → Held P → ℕ → Group P → Reply P
judged m test h work g =
    cond (spans (distance m g.a g.b))
    (cond (nat_lt g.number (factorial (distance m g.a g.b)))
    (cond (nat_le (length h.used + 2) work)
    (cond (says m test h.used g) (accept (replaced h (result m h.used g))) (refuse 7 h))
    (refuse 6 h))
    (refuse 5 h))
    (refuse 4 h)

-- Question 3: is the second place in use? Then the first, which is below it, is too.
abbrev pub linked_with : {P : Type 0} → Meaning P → Test → Held P → ℕ → ℕ → ℕ → ℕ → Option P → Reply P
linked_with m test h p q o work None = refuse 3 h
linked_with m test h p q o work (Some b) = judged m test h work (record { first = p; second = q; a = slice_index_or h.used p b; b = b; number = o })

-- Question 2: is the first place below the second?
unfoldable pub linked : {P : Type 0} → Meaning P → Test → Held P → ℕ → ℕ → ℕ → ℕ → Reply P
linked m test h p q o work = cond (nat_lt p q) (linked_with m test h p q o work (slice_get h.used q)) (refuse 2 h)

-- what is held after the links of the groups were kept one after the other
abbrev pub after_links : {P : Type 0} → Meaning P → Held P → List (Group P) → Held P
after_links m h [] = h
after_links m h (g ∷ gs) = after_links m (replaced h (result m h.used g)) gs

-- what is held after a run with that outcome
abbrev pub after_run : {P : Type 0} → Meaning P → Held P → Outcome P → Held P
after_run m h r = record { used = r.cover; free = (after_links m h (kept_of r.trials)).free }

abbrev pub reported : {P : Type 0} → Meaning P → Held P → Outcome P → Reply P
reported m h r = record { answer = ran r.ending (trial_rows m r.trials); held = after_run m h r }

-- Question 6, of the cover that the run meets, and no other
unfoldable pub ran_by : {P : Type 0} → Meaning P → Test → Held P → ℕ → ℕ → Reply P
ran_by m test h budget work = cond (nat_le (length h.used + 2) work) (reported m h (run m test budget h.used)) (refuse 6 h)

-- The answer to a request, and what is held afterwards. keeps y: what the criterion y says.
unfoldable pub served : {P Y : Type 0} → Meaning P → (Y → Test) → Held P → Request P Y → Reply P
served m keeps h (enter p) = admitted m h (p ∷ [])
served m keeps h (enter_list ps) = admitted m h ps
served m keeps h (link_by y p q o work) = linked m (keeps y) h p q o work
served m keeps h (run_by y budget work) = ran_by m (keeps y) h budget work

-- One turn of a history: what was held before it, the request, its answer, and what was held after it.
pub record Turn (P Y : Type 0) : Type 0 where
  pub before : Held P
  pub request : Request P Y
  pub answer : Answer
  pub after : Held P

abbrev pub turn_of : {P Y : Type 0} → Meaning P → (Y → Test) → Held P → Request P Y → Turn P Y
turn_of m keeps h r = record { before = h; request = r; answer = (served m keeps h r).answer; after = (served m keeps h r).held }

-- the turns that the requests make
unfoldable pub turns : {P Y : Type 0} → Meaning P → (Y → Test) → Held P → List (Request P Y) → List (Turn P Y)
turns m keeps h [] = []
turns m keeps h (r ∷ rs) = turn_of m keeps h r ∷ turns m keeps (served m keeps h r).held rs

-- what is held after the turns
abbrev pub left : {P Y : Type 0} → Held P → List (Turn P Y) → Held P
left h [] = h
left h (t ∷ ts) = left t.after ts

-- THE PROMISE. What follows speaks of the turns alone: of requests, their answers, and what was held before and after.

-- the products that an accepted request hands in
abbrev pub handed_in : {P Y : Type 0} → Answer → Request P Y → List P
handed_in (counted n) (enter p) = p ∷ []
handed_in (counted n) (enter_list ps) = ps
handed_in (counted n) (link_by y p q o w) = []
handed_in (counted n) (run_by y b w) = []
handed_in (refused n) r = []
handed_in (ran e s) r = []

-- the accepted entered products, each as often as it was handed in
abbrev pub accepted : {P Y : Type 0} → List (Turn P Y) → List P
accepted [] = []
accepted (t ∷ ts) = handed_in t.answer t.request ++ accepted ts

-- the cover c stands for the products es
pub record Sound {P : Type 0} (m : Meaning P) (es c : List P) : Type 0 where
  -- a point is covered an odd number of times by c exactly when it is by es
  pub parity : (x : ℕ) → covering m x c % 2 ≡ covering m x es % 2
  pub apart : Apart m c
  pub count : length c ≤ length es

-- what the answer to a request says of what was held before, h, and after, k
abbrev pub Right : {P Y : Type 0} → Meaning P → (Y → Test) → Answer → Request P Y → Held P → Held P → Type 0
Right m keeps (counted n) (enter p) h k = n ≡ length k.used
Right m keeps (counted n) (enter_list ps) h k = n ≡ length k.used
Right {P} m keeps (counted n) (link_by y p q o w) h k =
    (n ≡ length k.used) × ((a : P) × (b : P) × KeptLinks m (keeps y) h.used (record { first = p; second = q; a = a; b = b; number = o } ∷ []) k.used)
Right m keeps (counted n) (run_by y b w) h k = ⊥
Right m keeps (refused n) r h k = h ≡ k
Right m keeps (ran e s) (enter p) h k = ⊥
Right m keeps (ran e s) (enter_list ps) h k = ⊥
Right m keeps (ran e s) (link_by y p q o w) h k = ⊥
Right {P} m keeps (ran e s) (run_by y b w) h k =
    (ls : List (Group P)) × KeptLinks m (keeps y) h.used ls k.used × Runs m (keeps y) b h.used ls k.used e s

-- the memory keeps its size, and no more of it is in use than may be
pub record Fits {P : Type 0} (h k : Held P) : Type 0 where
  pub size : length (memory k) ≡ length (memory h)
  pub within : length k.used ≤ room k

pub record Kept {P Y : Type 0} (m : Meaning P) (keeps : Y → Test) (ts : List (Turn P Y)) : Type 0 where
  -- the first turn meets an empty cover, and each other what the turn before it left
  pub starts : (t : Turn P Y) → slice_get ts 0 ≡ Some t → t.before.used ≡ []
  pub follows : (n : ℕ) (s t : Turn P Y) → slice_get ts n ≡ Some s → slice_get ts (suc n) ≡ Some t → t.before ≡ s.after
  -- what each turn leaves stands for the products accepted so far
  pub sound : (n : ℕ) (t : Turn P Y) → slice_get ts n ≡ Some t → Sound m (accepted (take (suc n) ts)) t.after.used
  pub right : (n : ℕ) (t : Turn P Y) → slice_get ts n ≡ Some t → Right m keeps t.answer t.request t.before t.after
  pub fits : (n : ℕ) (t : Turn P Y) → slice_get ts n ≡ Some t → Fits t.before t.after

-- any criterion with the strict order
pub record SomeCriterion : Type 0 where
  pub test : Test
  pub strict : Strict test
