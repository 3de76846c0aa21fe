-- What a run keeps, when it ends, what it leaves, and what its record says.
use Rattle.std.proofs.Common.{◌≡◌, ℕ, zero, suc, ◌+◌, ◌≤◌, Bool, true, false, cond, eqb, ◌⊎◌, List, [], ◌∷◌, length, refl, ap, ◌∙◌, inl, inr, arith}
use Rattle.std.proofs.lemmas.Bool.{cond_both}
use Rattle.std.proofs.lemmas.Bool.Decides.{nat_tests}
use Rattle.esop.specs.Kind.{Meaning}
use Rattle.esop.specs.Criterion.{Test, Strict}
use Rattle.esop.specs.Entering.{bit}
use Rattle.esop.specs.Linking.{Group, IsGroup, span, result, says, Links}
use Rattle.esop.specs.Running.{groups, Trial, Outcome, after_trial, run_from, run, kept_of, tried_of, at_distance, trial_rows, all_tried, Tries, Lowering, Runs}
use Rattle.esop.specs.Claims.{Running}
use Rattle.esop.proofs.Groups.{Each, In, groups_are, groups_all, groups_most}
use Rattle.esop.specs.declared.ending.End.TheVariants.{Spent, Finished}

one_row : (k : ℕ) → 2 ≤ k → k ≤ 4 → bit (eqb k 2) + bit (eqb k 3) + bit (eqb k 4) ≡ 1
one_row k l u = grind (arith, nat_tests)

module _ {P : Type 0} (m : Meaning P) where
  -- the distance of a group is that of a row
  abbrev Spans : Group P → Type 0
  Spans g = (2 ≤ span m g) × (span m g ≤ 4)

  -- each group is in one row
  rows_all : (gs : List (Group P)) → Each Spans gs → at_distance m 2 gs + at_distance m 3 gs + at_distance m 4 gs ≡ length gs
  rows_all [] h = refl
  rows_all (g ∷ gs) h = omega (arith, rows_all gs h.1, one_row (span m g) h.0.0 h.0.1)

  length_tried : (ts : List (Trial P)) → length (tried_of ts) ≡ length ts
  length_tried [] = refl
  length_tried (t ∷ ts) = ap suc (length_tried ts)

  -- a kept link was tried
  kept_spans : (ts : List (Trial P)) → Each Spans (tried_of ts) → Each Spans (kept_of ts)
  kept_spans [] h = tt
  kept_spans (t ∷ ts) h = go t.kept (kept_spans ts h.1)
    where
      go : (b : Bool) → Each Spans (kept_of ts) → Each Spans (cond b (t.group ∷ kept_of ts) (kept_of ts))
      go true k = (h.0, k)
      go false k = k

  kept_fewer : (k : ℕ) (ts : List (Trial P)) → at_distance m k (kept_of ts) ≤ at_distance m k (tried_of ts)
  kept_fewer k [] = omega arith
  kept_fewer k (t ∷ ts) = go t.kept (kept_fewer k ts)
    where
      go : (b : Bool) → at_distance m k (kept_of ts) ≤ at_distance m k (tried_of ts) → at_distance m k (cond b (t.group ∷ kept_of ts) (kept_of ts)) ≤ bit (eqb (span m t.group) k) + at_distance m k (tried_of ts)
      go true l = omega arith
      go false l = omega arith

  -- a criterion with the strict order gets the cover lower by each link that it keeps
  pub links_lower : (test : Test) → Strict test → (c : List P) (gs : List (Group P)) (d : List P) → Links m test c gs d → Lowering m c gs
  links_lower test strict c [] d h = tt
  links_lower test strict c (g ∷ gs) d h = (strict _ _ _ _ _ h.1, links_lower test strict (result m c g) gs d h.2)

module _ {P : Type 0} (m : Meaning P) (test : Test) where
  record Ran (n : ℕ) (c : List P) (gs : List (Group P)) (r : Outcome P) : Type 0 where
    chain : Links m test c (kept_of r.trials) r.cover
    tries : Tries m test c r.trials r.cover
    enough : length gs ≤ n → (1 ≤ length (kept_of r.trials)) ⊎ (r.ending ≡ Finished)
    settled : r.ending ≡ Finished → (g : Group P) → IsGroup m r.cover g → says m test r.cover g ≡ false
    in_rows : Each (Spans m) (tried_of r.trials)
    within : length r.trials ≤ n
    used_up : r.ending ≡ Spent → length r.trials ≡ n

  -- every group of c is still to be tried, or the criterion says no to it
  abbrev Left : List P → List (Group P) → Type 0
  Left c gs = (g : Group P) → IsGroup m c g → In g gs ⊎ (says m test c g ≡ false)

  all_left : (c : List P) → Left c (groups m c)
  all_left c g h = inl (groups_all m c g h)

  none_left : (c : List P) → Left c [] → (g : Group P) → IsGroup m c g → says m test c g ≡ false
  none_left c l g h = elim (l g h) [ inl i ↦ absurd i | inr e ↦ e ]

  one_less : (c : List P) (g : Group P) (gs : List (Group P)) → says m test c g ≡ false → Left c (g ∷ gs) → Left c gs
  one_less c g gs e l g' h = go (l g' h)
    where
      go : In g' (g ∷ gs) ⊎ (says m test c g' ≡ false) → In g' gs ⊎ (says m test c g' ≡ false)
      go (inl (inl z)) = inr (rw z e)
      go (inl (inr i)) = inl i
      go (inr f) = inr f

  -- what holds of runs with a budget of n
  abbrev RunsSo : ℕ → Type 0
  RunsSo n = (c : List P) (gs : List (Group P)) → Each (IsGroup m c) gs → Left c gs → Ran n c gs (run_from m test n c gs)

  kept_one : (n : ℕ) → RunsSo n → (c : List P) (g : Group P) (gs : List (Group P)) → Each (IsGroup m c) (g ∷ gs) → says m test c g ≡ true → Ran (suc n) c (g ∷ gs) (after_trial g true (run_from m test n (result m c g) (groups m (result m c g))))
  kept_one n so c g gs h e =
      let d = result m c g in
      let r = so d (groups m d) (groups_are m d) (all_left d) in
      record {
        chain = (h.0, e, r.chain);
        tries = (h.0, e, r.tries);
        enough = λ k. inl (omega arith);
        settled = r.settled;
        in_rows = ((h.0.two, h.0.four), r.in_rows);
        within = omega (arith, r.within);
        used_up = λ z. ap suc (r.used_up z);
      }

  passed_one : (n : ℕ) → RunsSo n → (c : List P) (g : Group P) (gs : List (Group P)) → Each (IsGroup m c) (g ∷ gs) → Left c (g ∷ gs) → says m test c g ≡ false → Ran (suc n) c (g ∷ gs) (after_trial g false (run_from m test n c gs))
  passed_one n so c g gs h l e =
      let r = so c gs h.1 (one_less c g gs e l) in
      record {
        chain = r.chain;
        tries = (h.0, e, r.tries);
        enough = λ k. r.enough (omega arith);
        settled = r.settled;
        in_rows = ((h.0.two, h.0.four), r.in_rows);
        within = omega (arith, r.within);
        used_up = λ z. ap suc (r.used_up z);
      }

  nothing_left : (n : ℕ) (c : List P) → Left c [] → Ran n c [] (record { cover = c; ending = Finished; trials = [] })
  nothing_left n c l =
      record {
        chain = refl;
        tries = refl;
        enough = λ k. inr refl;
        settled = λ e. none_left c l;
        in_rows = tt;
        within = omega arith;
        used_up = λ e. absurd (let z : ◌≡◌ {A = ℕ} 0 1 = cc in omega arith);
      }

  no_budget : (c : List P) (g : Group P) (gs : List (Group P)) → Ran 0 c (g ∷ gs) (record { cover = c; ending = Spent; trials = [] })
  no_budget c g gs =
      record {
        chain = refl;
        tries = refl;
        enough = λ k. absurd (omega arith);
        settled = λ e. absurd (let z : ◌≡◌ {A = ℕ} 0 1 = cc in omega arith);
        in_rows = tt;
        within = omega arith;
        used_up = λ e. refl;
      }

  runs_so : (n : ℕ) → RunsSo n
  unfolding run_from
  runs_so zero c [] h l = nothing_left 0 c l
  runs_so zero c (g ∷ gs) h l = no_budget c g gs
  runs_so (suc n) c [] h l = nothing_left (suc n) c l
  runs_so (suc n) c (g ∷ gs) h l =
      cond_both (says m test c g) _ _ (Ran (suc n) c (g ∷ gs)) (λ e. kept_one n (runs_so n) c g gs h e) (λ e. passed_one n (runs_so n) c g gs h l e)

  ran : (n : ℕ) (c : List P) → Ran n c (groups m c) (run m test n c)
  ran n c = runs_so n c (groups m c) (groups_are m c) (all_left c)

  -- the links that a run keeps lead to the cover that it leaves, whatever the criterion
  pub run_links : (n : ℕ) (c : List P) → Links m test c (kept_of (run m test n c).trials) (run m test n c).cover
  run_links n c = (ran n c).chain

  -- the record has every trial
  pub run_tried : (n : ℕ) (c : List P) → all_tried (trial_rows m (run m test n c).trials) ≡ length (run m test n c).trials
  run_tried n c = let r = run m test n c in rows_all m (tried_of r.trials) (ran n c).in_rows ∙ length_tried m r.trials

  pub run_keeps : (n : ℕ) (c : List P) → let r = run m test n c in Runs m test n c (kept_of r.trials) r.cover r.ending (trial_rows m r.trials)
  run_keeps n c =
      let ts = (run m test n c).trials in
      let r = ran n c in
      record {
        enough = λ k. r.enough (omega (arith, groups_most m c));
        settled = r.settled;
        trials = (ts, r.tries, refl, refl);
        kept_two = refl;
        kept_three = refl;
        kept_four = refl;
        kept_all = rows_all m (kept_of ts) (kept_spans m ts r.in_rows);
        tried_two = kept_fewer m 2 ts;
        tried_three = kept_fewer m 3 ts;
        tried_four = kept_fewer m 4 ts;
        within = rw (run_tried n c) r.within;
        used_up = λ e. run_tried n c ∙ r.used_up e;
      }

  pub running : Strict test → (n : ℕ) (c : List P) → Running m test n c (run m test n c)
  running strict n c =
      let r = run m test n c in
      record {
        links = record { chain = run_links n c; lowering = links_lower m test strict c (kept_of r.trials) r.cover (run_links n c) };
        runs = run_keeps n c;
        all = run_tried n c;
      }
