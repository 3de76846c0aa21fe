-- Runs: the groups of a cover are tried in turn, and after a kept link those of the new cover, from the first.
use Rattle.std.specs.Prelude.{◌≡◌, ℕ, zero, suc, ◌+◌, ◌-◌, ◌*◌, ◌≤◌, Bool, true, false, cond, ◌&&◌, ◌⊎◌, List, [], ◌∷◌, ◌++◌, length, ◌==◌, nat_le}
use Rattle.esop.specs.Kind.{Meaning, distance}
use Rattle.esop.specs.Criterion.{Test, Lower}
use Rattle.esop.specs.Entering.{bit, total_weight}
use Rattle.esop.specs.Linking.{factorial, Group, IsGroup, span, result, says, Links}
use Rattle.esop.specs.declared.ending.End.{End}
use Rattle.esop.specs.declared.ending.End.TheVariants.{Spent, Finished}

-- whether a pair at distance k has groups
abbrev pub spans : ℕ → Bool
spans k = nat_le 2 k && nat_le k 4

-- n groups of a at place p and b at place q, from order number o on
unfoldable pub orders_from : {P : Type 0} → ℕ → ℕ → P → P → ℕ → ℕ → List (Group P)
orders_from p q a b o zero = []
orders_from p q a b o (suc n) = record { first = p; second = q; a = a; b = b; number = o } ∷ orders_from p q a b (suc o) n

-- the groups of a at place p and b at place q from order number o on
abbrev pub orders : {P : Type 0} → Meaning P → ℕ → ℕ → P → P → ℕ → List (Group P)
orders m p q a b o = cond (spans (distance m a b)) (orders_from p q a b o (factorial (distance m a b) - o)) []

-- the groups of a at place p with the products of the list, which stand from place q on
unfoldable pub groups_with : {P : Type 0} → Meaning P → ℕ → P → ℕ → List P → List (Group P)
groups_with m p a q [] = []
groups_with m p a q (b ∷ c) = orders m p q a b 0 ++ groups_with m p a (suc q) c

-- the groups of the products of the list, which stand from place p on
unfoldable pub groups_from : {P : Type 0} → Meaning P → ℕ → List P → List (Group P)
groups_from m p [] = []
groups_from m p (a ∷ c) = groups_with m p a (suc p) c ++ groups_from m (suc p) c

-- the groups of the cover: by first place, then second place, then order number
abbrev pub groups : {P : Type 0} → Meaning P → List P → List (Group P)
groups m c = groups_from m 0 c

-- one group tried, and whether its link was kept
pub record Trial (P : Type 0) : Type 0 where
  pub group : Group P
  pub kept : Bool

pub record Outcome (P : Type 0) : Type 0 where
  pub cover : List P
  pub ending : End
  pub trials : List (Trial P)

-- an outcome with one trial before the others
abbrev pub after_trial : {P : Type 0} → Group P → Bool → Outcome P → Outcome P
after_trial g b r = record { cover = r.cover; ending = r.ending; trials = record { group = g; kept = b } ∷ r.trials }

-- the run that has a budget, the cover c, and the groups of the list still to try
unfoldable pub run_from : {P : Type 0} → Meaning P → Test → ℕ → List P → List (Group P) → Outcome P
run_from m test zero c [] = record { cover = c; ending = Finished; trials = [] }
run_from m test zero c (g ∷ gs) = record { cover = c; ending = Spent; trials = [] }
run_from m test (suc n) c [] = record { cover = c; ending = Finished; trials = [] }
run_from m test (suc n) c (g ∷ gs) =
    cond (says m test c g) (after_trial g true (run_from m test n (result m c g) (groups m (result m c g)))) (after_trial g false (run_from m test n c gs))

abbrev pub run : {P : Type 0} → Meaning P → Test → ℕ → List P → Outcome P
run m test budget c = run_from m test budget c (groups m c)

-- the groups whose links were kept
abbrev pub kept_of : {P : Type 0} → List (Trial P) → List (Group P)
kept_of [] = []
kept_of (t ∷ ts) = cond t.kept (t.group ∷ kept_of ts) (kept_of ts)

-- how many of the groups are at distance k
abbrev pub at_distance : {P : Type 0} → Meaning P → ℕ → List (Group P) → ℕ
at_distance m k [] = 0
at_distance m k (g ∷ gs) = bit (span m g == k) + at_distance m k gs

-- The record of rows: for each distance, how many groups were tried, and of how many the link was kept.
pub record Row : Type 0 where
  pub tried : ℕ
  pub kept : ℕ

pub record Rows : Type 0 where
  pub two : Row
  pub three : Row
  pub four : Row

-- the groups tried
abbrev pub tried_of : {P : Type 0} → List (Trial P) → List (Group P)
tried_of [] = []
tried_of (t ∷ ts) = t.group ∷ tried_of ts

abbrev pub row_of : {P : Type 0} → Meaning P → ℕ → List (Trial P) → Row
row_of m k ts = record { tried = at_distance m k (tried_of ts); kept = at_distance m k (kept_of ts) }

abbrev pub trial_rows : {P : Type 0} → Meaning P → List (Trial P) → Rows
trial_rows m ts = record { two = row_of m 2 ts; three = row_of m 3 ts; four = row_of m 4 ts }

abbrev pub all_tried : Rows → ℕ
all_tried s = s.two.tried + s.three.tried + s.four.tried

abbrev pub all_kept : Rows → ℕ
all_kept s = s.two.kept + s.three.kept + s.four.kept

-- the trials lead from c to d: each is of a group of the cover then standing, and its link is kept exactly when the criterion says yes
abbrev pub Tries : {P : Type 0} → Meaning P → Test → List P → List (Trial P) → List P → Type 0
Tries m test c [] d = c ≡ d
Tries m test c (t ∷ ts) d =
    IsGroup m c t.group × (says m test c t.group ≡ t.kept) × Tries m test (cond t.kept (result m c t.group) c) ts d

-- each link gets the cover lower: its count falls, or stays while the weight falls
abbrev pub Lowering : {P : Type 0} → Meaning P → List P → List (Group P) → Type 0
Lowering m c [] = Unit {0}
Lowering m c (g ∷ gs) = Lower (length c) (total_weight m c) (length (result m c g)) (total_weight m (result m c g)) × Lowering m (result m c g) gs

-- the links of the groups, kept one after the other, lead from c to d, and each gets the cover lower
pub record KeptLinks {P : Type 0} (m : Meaning P) (test : Test) (c : List P) (ls : List (Group P)) (d : List P) : Type 0 where
  pub chain : Links m test c ls d
  pub lowering : Lowering m c ls

-- What is promised of a run with a budget that met the cover c, kept the links of the groups ls, left the cover d, and answered with
-- its ending e and the record s.
pub record Runs {P : Type 0} (m : Meaning P) (test : Test) (budget : ℕ) (c : List P) (ls : List (Group P)) (d : List P) (e : End) (s : Rows) : Type 0 where
  -- with a budget for every group it keeps a link, or tries them all
  pub enough : 12 * length c * (length c - 1) ≤ budget → (1 ≤ length ls) ⊎ (e ≡ Finished)
  -- where it finished, the criterion says no to every group of the cover that it left
  pub settled : e ≡ Finished → (g : Group P) → IsGroup m d g → says m test d g ≡ false
  -- the record has its trials row by row, tried and kept; the links kept among them are those of ls
  pub trials : (ts : List (Trial P)) × Tries m test c ts d × (kept_of ts ≡ ls) × (trial_rows m ts ≡ s)
  -- the record has the kept links row by row
  pub kept_two : s.two.kept ≡ at_distance m 2 ls
  pub kept_three : s.three.kept ≡ at_distance m 3 ls
  pub kept_four : s.four.kept ≡ at_distance m 4 ls
  pub kept_all : s.two.kept + s.three.kept + s.four.kept ≡ length ls
  -- a kept link was tried, and each trial takes one of the budget
  pub tried_two : s.two.kept ≤ s.two.tried
  pub tried_three : s.three.kept ≤ s.three.tried
  pub tried_four : s.four.kept ≤ s.four.tried
  pub within : all_tried s ≤ budget
  pub used_up : e ≡ Spent → all_tried s ≡ budget
