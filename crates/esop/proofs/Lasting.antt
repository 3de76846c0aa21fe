-- What holds of the values of all products entered, and is kept by joins, holds of every product that a cover ever has.
use Rattle.std.proofs.Common.{◌≡◌, ℕ, zero, suc, ◌+◌, Bool, true, false, not, eqb, ltb, leb, List, [], ◌∷◌, ◌++◌, length, get_or, take, Some, None, Option, refl, ap, ◌∙◌, subst, arith}
use Rattle.std.specs.List.{slice_get, remove, AllByRecursion}
use Rattle.std.proofs.ByRecursion.{All-push}
use Rattle.std.proofs.lemmas.Bool.{and_parts, cond_both, eqb-false, eqb-true, ltb-true, not-true}
use Rattle.esop.specs.Kind.{Meaning, Laws, differs, differing, distance}
use Rattle.esop.specs.Criterion.{Test}
use Rattle.esop.specs.Entering.{seek, met, arrived, entered_within, entered, entered_all}
use Rattle.esop.specs.Linking.{factorial, order, path, link, Group, IsGroup, without, result, says, Links}
use Rattle.esop.specs.Running.{spans, run, kept_of}
use Rattle.esop.specs.History.{Request, enter, enter_list, link_by, run_by, Held, room, opened, Reply, judged, linked_with, linked, ran_by, served, Turn, turn_of, turns, handed_in, accepted}
use Rattle.esop.specs.Lasting.{Passes, JoinKeeps, ValuesLast, LastsOver, HistoriesLast}
use Rattle.esop.proofs.Running.{run_links}

-- What holds of each element of a list.
module _ {X : Type 0} (Q : X → Type 0) where
  all_removed : (xs : List X) (i : ℕ) → AllByRecursion Q xs → AllByRecursion Q (remove xs i)
  all_removed [] zero h = tt
  all_removed [] (suc i) h = tt
  all_removed (x ∷ xs) zero h = h.1
  all_removed (x ∷ xs) (suc i) h = (h.0, all_removed xs i h.1)

  -- the element at place i; past the end there is the default
  all_at : (xs : List X) (i : ℕ) (d : X) → Q d → AllByRecursion Q xs → Q (get_or xs i d)
  all_at [] i d q h = q
  all_at (x ∷ xs) zero d q h = h.0
  all_at (x ∷ xs) (suc i) d q h = all_at xs i d q h.1

  all_nth : (xs : List X) (i : ℕ) (x : X) → slice_get xs i ≡ Some x → AllByRecursion Q xs → Q x
  all_nth [] i x e h = absurd (let z : ◌≡◌ {A = ℕ} 0 1 = cc in omega arith)
  all_nth (y ∷ xs) zero x e h = let z : y ≡ x = cc in subst Q z h.0
  all_nth (y ∷ xs) (suc i) x e h = all_nth xs i x e h.1

  -- the two parts of a list
  all_parts : (xs ys : List X) → AllByRecursion Q (xs ++ ys) → AllByRecursion Q xs × AllByRecursion Q ys
  all_parts [] ys h = (tt, h)
  all_parts (x ∷ xs) ys h = let r = all_parts xs ys h.1 in ((h.0, r.0), r.1)

module _ {P : Type 0} (m : Meaning P) (laws : Laws m) (f : ℕ → ℕ → Bool) (keep : JoinKeeps m f) where
  -- the product passes
  abbrev Ok : P → Type 0
  Ok = Passes m f

  -- a take has each value from one of the two
  take_passes : (a b : P) (d : ℕ) → Ok a → Ok b → Ok (m.taken a d b)
  take_passes a b d ha hb j l =
      ap (f j) (laws.positions.take_value a b d j l)
      ∙ cond_both (eqb d j) (m.value b j) (m.value a j) (λ v. f j v ≡ true) (λ _. hb j l) (λ _. ha j l)

  -- the joined value, at a position that differs
  mixed_passes : (a b : P) (d : ℕ) → differs m a b d ≡ true → Ok a → Ok b → f d (m.mixed d (m.value a d) (m.value b d)) ≡ true
  mixed_passes a b d e ha hb =
      let (within, apart) = and_parts (ltb d m.width) (not (eqb (m.value a d) (m.value b d))) e in
      let l = ltb-true d m.width within in
      keep d (m.value a d) (m.value b d) (eqb-false _ _ (not-true _ apart)) (ha d l) (hb d l)

  -- a join has the joined value at a position that differs, and else the values of the first
  join_passes : (a b : P) (d : ℕ) → Ok a → Ok b → Ok (m.joined a d b)
  join_passes a b d ha hb = go (differs m a b d) refl
    where
      go : (t : Bool) → differs m a b d ≡ t → Ok (m.joined a d b)
      go true e j l =
          ap (f j) (laws.positions.join_value a b d j e l)
          ∙ cond_both (eqb d j) (m.mixed d (m.value a d) (m.value b d)) (m.value a j) (λ v. f j v ≡ true)
          (λ z. subst (λ k. f k (m.mixed d (m.value a d) (m.value b d)) ≡ true) (eqb-true d j z) (mixed_passes a b d e ha hb))
          (λ _. ha j l)
      go false e j l = ap (λ p. f j (m.value p j)) (laws.positions.join_none a b d e) ∙ ha j l

  -- Entering.

  -- what holds of entering within a number of rounds
  abbrev EntersSo : (P → List P → List P) → Type 0
  EntersSo again = (p : P) (c : List P) → Ok p → AllByRecursion Ok c → AllByRecursion Ok (again p c)

  met_lasts : (again : P → List P → List P) → EntersSo again → (p : P) (c : List P) (i : ℕ) (q : P) (ds : List ℕ) → Ok p → Ok q → AllByRecursion Ok c → AllByRecursion Ok (met m again p c i q ds)
  met_lasts again so p c i q [] hp hq hc = all_removed Ok c i hc
  met_lasts again so p c i q (d ∷ ds) hp hq hc = so (m.joined p d q) (remove c i) (join_passes p q d hp hq) (all_removed Ok c i hc)

  arrived_lasts : (again : P → List P → List P) → EntersSo again → (p : P) (c : List P) (o : Option ℕ) → Ok p → AllByRecursion Ok c → AllByRecursion Ok (arrived m again p c o)
  arrived_lasts again so p c None hp hc = All-push Ok c p hc hp
  arrived_lasts again so p c (Some i) hp hc =
      met_lasts again so p c i (get_or c i p) (differing m p (get_or c i p)) hp (all_at Ok c i p hp hc) hc

  within_lasts : (n : ℕ) → EntersSo (entered_within m n)
  unfolding entered_within
  within_lasts zero p c hp hc = All-push Ok c p hc hp
  within_lasts (suc n) p c hp hc = arrived_lasts (entered_within m n) (within_lasts n) p c (seek m p c) hp hc

  entered_lasts : EntersSo (entered m)
  unfolding entered
  entered_lasts p c hp hc = within_lasts (length c) p c hp hc

  entering_lasts : (ps c : List P) → AllByRecursion Ok ps → AllByRecursion Ok c → AllByRecursion Ok (entered_all m ps c)
  unfolding entered_all
  entering_lasts [] c hs hc = hc
  entering_lasts (p ∷ ps) c hs hc = entering_lasts ps (entered m p c) hs.1 (entered_lasts p c hs.0 hc)

  -- Links.

  path_passes : (t b : P) (ds : List ℕ) → Ok t → Ok b → AllByRecursion Ok (path m t b ds)
  unfolding path
  path_passes t b [] ht hb = tt
  path_passes t b (d ∷ ds) ht hb =
      let next = take_passes t b d ht hb in
      (join_passes t (m.taken t d b) d ht next, path_passes (m.taken t d b) b ds next hb)

  -- where the two products linked pass
  result_lasts : (c : List P) (g : Group P) → Ok g.a → Ok g.b → AllByRecursion Ok c → AllByRecursion Ok (result m c g)
  unfolding result
  result_lasts c g ha hb hc =
      entering_lasts (link m g.a g.b g.number) (without c g) (path_passes g.a g.b (order m g.a g.b g.number) ha hb)
      (all_removed Ok (remove c g.second) g.first (all_removed Ok c g.second hc))

  linking_lasts : (c : List P) (g : Group P) → IsGroup m c g → AllByRecursion Ok c → AllByRecursion Ok (result m c g)
  linking_lasts c g is hc =
      result_lasts c g (all_nth Ok c g.first g.a is.at_first hc) (all_nth Ok c g.second g.b is.at_second hc) hc

  -- Runs.

  links_last : (test : Test) (c : List P) (gs : List (Group P)) (d : List P) → Links m test c gs d → AllByRecursion Ok c → AllByRecursion Ok d
  links_last test c [] d h hc = subst (AllByRecursion Ok) h hc
  links_last test c (g ∷ gs) d h hc = links_last test (result m c g) gs d h.2 (linking_lasts c g h.0 hc)

  running_lasts : (test : Test) (budget : ℕ) (c : List P) → AllByRecursion Ok c → AllByRecursion Ok (run m test budget c).cover
  running_lasts test budget c hc =
      let r = run m test budget c in
      links_last test c (kept_of r.trials) r.cover (run_links m test budget c) hc

  -- Histories.

  -- all products in use pass
  abbrev Holds : Reply P → Type 0
  Holds s = AllByRecursion Ok s.held.used

  judged_lasts : (test : Test) (h : Held P) (work : ℕ) (g : Group P) → Ok g.a → Ok g.b → AllByRecursion Ok h.used → Holds (judged m test h work g)
  unfolding judged
  judged_lasts test h work g ha hb hc =
      cond_both (spans (distance m g.a g.b)) _ _ Holds
      (λ _. cond_both (ltb g.number (factorial (distance m g.a g.b))) _ _ Holds
      (λ _. cond_both (leb (length h.used + 2) work) _ _ Holds
      (λ _. cond_both (says m test h.used g) _ _ Holds (λ _. result_lasts h.used g ha hb hc) (λ _. hc))
      (λ _. hc))
      (λ _. hc))
      (λ _. hc)

  linked_with_lasts : (test : Test) (h : Held P) (p q o work : ℕ) (b : Option P) → slice_get h.used q ≡ b → AllByRecursion Ok h.used → Holds (linked_with m test h p q o work b)
  linked_with_lasts test h p q o work None e hc = hc
  linked_with_lasts test h p q o work (Some b) e hc =
      let hb = all_nth Ok h.used q b e hc in
      judged_lasts test h work (record { first = p; second = q; a = get_or h.used p b; b = b; number = o }) (all_at Ok h.used p b hb hc) hb hc

  linked_lasts : (test : Test) (h : Held P) (p q o work : ℕ) → AllByRecursion Ok h.used → Holds (linked m test h p q o work)
  unfolding linked
  linked_lasts test h p q o work hc =
      cond_both (ltb p q) _ _ Holds (λ _. linked_with_lasts test h p q o work (slice_get h.used q) refl hc) (λ _. hc)

  ran_lasts : (test : Test) (h : Held P) (budget work : ℕ) → AllByRecursion Ok h.used → Holds (ran_by m test h budget work)
  unfolding ran_by
  ran_lasts test h budget work hc = cond_both (leb (length h.used + 2) work) _ _ Holds (λ _. running_lasts test budget h.used hc) (λ _. hc)

  module _ {Y : Type 0} (keeps : Y → Test) where
    -- a reply to the request r: where the products that it accepts pass, so do all in use
    abbrev HoldsAfter : Request P Y → Reply P → Type 0
    HoldsAfter r s = AllByRecursion Ok (handed_in s.answer r) → AllByRecursion Ok s.held.used

    served_lasts : (h : Held P) (r : Request P Y) → AllByRecursion Ok h.used → HoldsAfter r (served m keeps h r)
    unfolding served
    served_lasts h (enter p) hc =
        cond_both (leb (length h.used + 1) (room h)) _ _ (HoldsAfter (enter p)) (λ _ hs. entering_lasts (p ∷ []) h.used hs hc) (λ _ _. hc)
    served_lasts h (enter_list ps) hc =
        cond_both (leb (length h.used + length ps) (room h)) _ _ (HoldsAfter (enter_list ps)) (λ _ hs. entering_lasts ps h.used hs hc) (λ _ _. hc)
    served_lasts h (link_by y p q o w) hc = λ _. linked_lasts (keeps y) h p q o w hc
    served_lasts h (run_by y b w) hc = λ _. ran_lasts (keeps y) h b w hc

    turns_last : (rs : List (Request P Y)) (h : Held P) → AllByRecursion Ok h.used → LastsOver m f (turns m keeps h rs)
    unfolding turns
    turns_last [] h hc n t e hs = absurd (let z : ◌≡◌ {A = ℕ} 0 1 = cc in omega arith)
    turns_last (r ∷ rs) h hc zero t e hs =
        let z : turn_of m keeps h r ≡ t = cc in
        let here = (all_parts Ok (handed_in (served m keeps h r).answer r) [] hs).0 in
        subst (λ (u : Turn P Y). AllByRecursion Ok u.after.used) z (served_lasts h r hc here)
    turns_last (r ∷ rs) h hc (suc n) t e hs =
        let s = served m keeps h r in
        let (here, rest) = all_parts Ok (handed_in s.answer r) (accepted (take (suc n) (turns m keeps s.held rs))) hs in
        turns_last rs s.held (served_lasts h r hc here) n t e rest

pub values_last : {P : Type 0} (m : Meaning P) (laws : Laws m) → ValuesLast m
values_last m laws f keep =
    record { entering = entering_lasts m laws f keep; linking = linking_lasts m laws f keep; running = running_lasts m laws f keep }

pub histories_last : {P Y : Type 0} (m : Meaning P) (laws : Laws m) (keeps : Y → Test) → HistoriesLast m keeps
histories_last m laws keeps f keep places rs = turns_last m laws f keep keeps rs (opened places) tt
