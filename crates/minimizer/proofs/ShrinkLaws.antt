-- The history of a load and two runs.
-- Assumes nothing.
use Rattle.std.proofs.Common.{◌≡◌, ℕ, ◌+◌, ◌-◌, ◌≤◌, min, List, [], ◌∷◌, ◌++◌, map, length, get_or, take, Ok, Err, sym, refl, ap, ◌∙◌, subst, arith, length-append}
use Rattle.std.specs.List.{slice_get, AllByRecursion}
use Rattle.std.proofs.lemmas.List.{take_at, append-nil}
use Rattle.std.proofs.lemmas.Bool.{cond-true, le-leb}
use Rattle.esop.specs.Entering.{entered_all, spared_all}
use Rattle.esop.specs.History.{Answer, counted, ran, Request, enter_list, run_by, Held, Reply, accept, reported, ran_by, served, Turn, opened, turns, left, memory, accepted, Sound, Kept}
use Rattle.esop.specs.Running.{trial_rows}
use Rattle.esop.specs.Strategies.{test_of}
use Rattle.esop.specs.declared.strategy.Strategy.{Strategy}
use Rattle.esop.specs.declared.strategy.Strategy.TheVariants.{Reduce, Refine}
use Rattle.cube.specs.Positions.{cubes}
use Rattle.cube.specs.declared.cube.Cube.{Cube}
use Rattle.cover.specs.Serving.{asked, said, entry, running, call_asked, call_said, Untouched, Serves}
use Rattle.cover.specs.declared.serve.Answer.TheVariants as code
use Rattle.cover.specs.declared.serve.Answer.{Answer as Code}
use Rattle.cover.specs.declared.serve.Request.{Request as Request'}
use Rattle.sheet.specs.declared.summary.RunSummary.{RunSummary}
use Rattle.minimizer.specs.Shrinking.{asks, reduced_run, refined_run, shrunk, Tells, requests, log, places_left, Roomy, Logged, Shrinks}

-- one turn, by its reply
turns_one : (h : Held Cube) (r : Request Cube Strategy) (rs : List (Request Cube Strategy)) (p : Reply Cube) → served cubes test_of h r ≡ p
    → turns cubes test_of h (r ∷ rs) ≡ record { before = h; request = r; answer = p.answer; after = p.held } ∷ turns cubes test_of p.held rs
unfolding turns
turns_one h r rs p e = ap (λ (x : Reply Cube). record { before = h; request = r; answer = x.answer; after = x.held } ∷ turns cubes test_of x.held rs) e

module _ (places rows : List Cube) (w : ℕ) (fit : Roomy places rows w) (promise : Kept cubes test_of (log places rows w)) where
  abbrev loaded : Held Cube
  loaded = record { used = entered_all cubes rows []; free = spared_all cubes rows [] places }

  abbrev reduced : Reply Cube
  reduced = reported cubes loaded (reduced_run rows)

  abbrev refined : Reply Cube
  refined = reported cubes reduced.held (refined_run rows)

  abbrev first : Turn Cube Strategy
  first = record { before = opened places; request = enter_list rows; answer = counted (length loaded.used); after = loaded }

  abbrev second : Turn Cube Strategy
  second = record { before = loaded; request = run_by Reduce 1000000 w; answer = reduced.answer; after = reduced.held }

  abbrev third : Turn Cube Strategy
  third = record { before = reduced.held; request = run_by Refine 1000000 w; answer = refined.answer; after = refined.held }

  abbrev from_second : List (Turn Cube Strategy)
  from_second = turns cubes test_of loaded (run_by Reduce 1000000 w ∷ run_by Refine 1000000 w ∷ [])

  abbrev from_third : List (Turn Cube Strategy)
  from_third = turns cubes test_of reduced.held (run_by Refine 1000000 w ∷ [])

  loads : served cubes test_of (opened places) (enter_list rows) ≡ accept loaded
  unfolding served
  loads = let r = fit.room in cond-true _ _ _ (le-leb (0 + length rows) (min 960 (length places)) (omega arith))

  one : log places rows w ≡ first ∷ from_second
  unfolding log
  one = turns_one (opened places) (enter_list rows) _ (accept loaded) loads

  few_loaded : length loaded.used ≤ length rows
  few_loaded =
      let s = (promise.sound 0 first (ap (λ ts. slice_get ts 0) one)).count in
      let e = ap (λ ts. length (accepted (take 1 ts))) one in
      let n = length-append rows [] in
      omega arith

  reduces : served cubes test_of loaded (run_by Reduce 1000000 w) ≡ reduced
  unfolding served ran_by reduced_run
  reduces = let f = fit.work in let k = few_loaded in cond-true _ _ _ (le-leb (length loaded.used + 2) w (omega arith))

  two : log places rows w ≡ first ∷ second ∷ from_third
  two = one ∙ ap (λ ts. first ∷ ts) (turns_one loaded (run_by Reduce 1000000 w) _ reduced reduces)

  few_reduced : length reduced.held.used ≤ length rows
  few_reduced =
      let s = (promise.sound 1 second (ap (λ ts. slice_get ts 1) two)).count in
      let e = ap (λ ts. length (accepted (take 2 ts))) two in
      let n = length-append rows ([] ++ []) in
      omega arith

  refines : served cubes test_of reduced.held (run_by Refine 1000000 w) ≡ refined
  unfolding served ran_by refined_run
  refines = let f = fit.work in let k = few_reduced in cond-true _ _ _ (le-leb (length reduced.held.used + 2) w (omega arith))

  three : log places rows w ≡ first ∷ second ∷ third ∷ []
  unfolding turns
  three = two ∙ ap (λ ts. first ∷ second ∷ ts) (turns_one reduced.held (run_by Refine 1000000 w) [] refined refines)

  pub logged : Logged places rows w
  logged =
      record {
        answers = ap (map (λ t. t.answer)) three;
        left_in_use = ap (λ ts. (left (opened places) ts).used) three;
        sound =
            subst (λ es. Sound cubes es (shrunk rows)) (ap (λ ts. accepted (take 3 ts)) three ∙ append-nil rows)
            (promise.sound 2 third (ap (λ ts. slice_get ts 2) three));
      }

-- the second and the third of three answers
pub three_answers : (xs : List Code) (x y z : Answer) (d : Code) → map said (take 3 xs) ≡ x ∷ y ∷ z ∷ [] → (said (get_or xs 1 d) ≡ y) × (said (get_or xs 2 d) ≡ z)
three_answers [] x y z d e = absurd (let q : ◌≡◌ {A = ℕ} 0 1 = cc in omega arith)
three_answers (a ∷ []) x y z d e = absurd (let q : ◌≡◌ {A = ℕ} 0 1 = cc in omega arith)
three_answers (a ∷ b ∷ []) x y z d e = absurd (let q : ◌≡◌ {A = ℕ} 0 1 = cc in omega arith)
three_answers (a ∷ b ∷ c ∷ xs) x y z d e = (cc, cc)

-- where neither run tried a group, no group was tried for any of the three answers
no_group : (y : Strategy) (a : Code) (r : RunSummary) → call_said a ≡ running → Tells y (said a) r → r.tried ≡ 0 → Untouched a
no_group y (code.Entered x) r c h e = absurd (let q : ◌≡◌ {A = ℕ} 0 1 = cc in omega arith)
no_group y (code.Linked x) r c h e = absurd (let q : ◌≡◌ {A = ℕ} 0 1 = cc in omega arith)
no_group y (code.Ran (Ok x)) r c h e = ap (λ t. t.tried) (sym (h _ _ refl)) ∙ e
no_group y (code.Ran (Err x)) r c h e = tt

entry_untouched : (a : Code) → call_said a ≡ entry → Untouched a
entry_untouched (code.Entered r) c = tt
entry_untouched (code.Linked r) c = absurd (let q : ◌≡◌ {A = ℕ} 0 1 = cc in omega arith)
entry_untouched (code.Ran r) c = absurd (let q : ◌≡◌ {A = ℕ} 0 1 = cc in omega arith)

pub untouched_by : (xs : List Code) (d : Code) (r s : RunSummary) → map call_said (take 3 xs) ≡ entry ∷ running ∷ running ∷ []
    → Tells Reduce (said (get_or xs 1 d)) r → Tells Refine (said (get_or xs 2 d)) s → r.tried ≡ 0 → s.tried ≡ 0 → AllByRecursion Untouched (take 3 xs)
untouched_by [] d r s c e f p q = absurd (let z : ◌≡◌ {A = ℕ} 0 1 = cc in omega arith)
untouched_by (x ∷ []) d r s c e f p q = absurd (let z : ◌≡◌ {A = ℕ} 0 1 = cc in omega arith)
untouched_by (x ∷ y ∷ []) d r s c e f p q = absurd (let z : ◌≡◌ {A = ℕ} 0 1 = cc in omega arith)
untouched_by (x ∷ y ∷ z ∷ xs) d r s c e f p q =
    let a : call_said x ≡ entry = cc in
    let b : call_said y ≡ running = cc in
    let g : call_said z ≡ running = cc in
    (entry_untouched x a, (no_group Reduce y r b e p, (no_group Refine z s g f q, tt)))

-- the same for the requests of the code
pub three_calls : (xs : List Code) (rs : List (Request' Cube Strategy)) (n : ℕ) → rs ≡ asks n → map call_said (take (length rs) xs) ≡ map call_asked rs
    → (r s : RunSummary) (d : Code) → Tells Reduce (said (get_or xs 1 d)) r → Tells Refine (said (get_or xs 2 d)) s → r.tried ≡ 0 → s.tried ≡ 0
    → AllByRecursion Untouched (take (length rs) xs)
three_calls xs rs n is calls r s d e f p q =
    let three = ap length is in
    subst (λ k. AllByRecursion Untouched (take k xs)) (sym three)
    (untouched_by xs d r s (ap (λ k. map call_said (take k xs)) (sym three) ∙ calls ∙ ap (map call_asked) is) e f p q)

-- the requests of the code are those of the history
asked_rows : (list : List Cube) (n w : ℕ) → map (asked list w) (asks n) ≡ requests (take n list) w
asked_rows list n w = let z : n - 0 ≡ n = omega arith in ap (λ k. requests (take k list) w) z

-- The second and the third answer are of the runs of Reduce and of Refine.
pub run_answers : (places list : List Cube) (n w : ℕ) (answers after : List Code) (count : ℕ) (left-places : List Cube) (d : Code) (rs : List (Request' Cube Strategy))
    → Roomy places (take n list) w → rs ≡ asks n → Serves cubes test_of places list rs w answers count left-places after
    → (said (get_or after 1 d) ≡ ran (reduced_run (take n list)).ending (trial_rows cubes (reduced_run (take n list)).trials))
    × (said (get_or after 2 d) ≡ ran (refined_run (take n list)).ending (trial_rows cubes (refined_run (take n list)).trials))
unfolding log
run_answers places list n w answers after count left-places d rs fit is g =
    let h = subst (λ x. Serves cubes test_of places list x w answers count left-places after) is g in
    let same = ap (turns cubes test_of (opened places)) (asked_rows list n w) in
    let l = logged places (take n list) w fit (subst (Kept cubes test_of) same h.kept) in
    three_answers after _ _ _ d (h.answered ∙ ap (map (λ t. t.answer)) same ∙ l.answers)

pub shrinks_by : (places list : List Cube) (n w : ℕ) (answers after : List Code) (count : ℕ) (left-places : List Cube) (r s : RunSummary) (d : Code) (rs : List (Request' Cube Strategy))
    → Roomy places (take n list) w → rs ≡ asks n → Serves cubes test_of places list rs w answers count left-places after
    → Tells Reduce (said (get_or after 1 d)) r → Tells Refine (said (get_or after 2 d)) s
    → Shrinks places (take n list) w (record { count = count; reduced = r; refined = s }) left-places
unfolding log
shrinks_by places list n w answers after count left-places r s d rs fit is g e f =
    let h = subst (λ x. Serves cubes test_of places list x w answers count left-places after) is g in
    let rows = take n list in
    let same = ap (turns cubes test_of (opened places)) (asked_rows list n w) in
    let promise = subst (Kept cubes test_of) same h.kept in
    let l = logged places rows w fit promise in
    let a = run_answers places list n w answers after count left-places d rs fit is g in
    let in_use = ap (λ ts. (left (opened places) ts).used) same ∙ l.left_in_use in
    let held = ap (λ ts. left (opened places) ts) same in
    let after_is : left-places ≡ places_left places rows w = h.held ∙ ap memory held in
    let used-is = l.left_in_use in
    let free = (left (opened places) (log places rows w)).free in
    let parts : left-places ≡ shrunk rows ++ free = after_is ∙ ap (λ u. u ++ free) used-is in
    record {
      count = h.count ∙ ap length in_use;
      reduced = e _ _ a.0;
      refined = f _ _ a.1;
      places = after_is;
      products = ap (take (length (shrunk rows))) parts ∙ take_at (shrunk rows) free (length (shrunk rows)) refl;
      within = let p = ap length parts in let q = length-append (shrunk rows) free in omega arith;
      promise = promise;
      logged = l;
    }
