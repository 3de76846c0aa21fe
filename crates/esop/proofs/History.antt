-- Every history keeps the promise.
use Rattle.std.proofs.Common.{◌≡◌, ℕ, zero, suc, ◌+◌, ◌<◌, ◌≤◌, true, ltb, leb, List, [], ◌∷◌, ◌++◌, length, get_or, take, drop, Some, None, Option, sym, refl, ap, ◌∙◌, subst, arith, length-append, length-drop}
use Rattle.std.specs.List.{slice_get}
use Rattle.std.proofs.lemmas.List.{append-nil, append_assoc}
use Rattle.std.proofs.lemmas.Option.{slice_get-get_or}
use Rattle.std.proofs.lemmas.Bool.{cond_both, leb-true, ltb-true}
use Rattle.esop.specs.Kind.{Meaning, Laws, distance}
use Rattle.esop.specs.Criterion.{Test, Strict, Lower}
use Rattle.esop.specs.Entering.{entered_all, spared_all}
use Rattle.esop.specs.Linking.{factorial, Group, IsGroup, result, says, Links}
use Rattle.esop.specs.Running.{spans, run, kept_of, Lowering, KeptLinks}
use Rattle.esop.specs.History.{Request, enter, enter_list, link_by, run_by, Held, memory, room, opened, Reply, accept, refuse, replaced, admitted, judged, linked_with, linked, after_links, ran_by, served, Turn, turn_of, turns, handed_in, accepted, Sound, Right, Fits, Kept}
use Rattle.esop.proofs.Entering.{covering_append, all_parity, all_apart, all_count, all_size}
use Rattle.esop.proofs.Linking.{nth_is, relinks}
use Rattle.esop.proofs.Groups.{spans_true}
use Rattle.esop.proofs.Running.{links_lower, run_links, run_keeps}

lower_count : (n w n' w' : ℕ) → Lower n w n' w' → n' ≤ n
lower_count n w n' w' h = omega arith

module _ {P : Type 0} where
  -- another cover that is no longer, written over the first places, leaves the memory its size
  pub replaced_size : (h : Held P) (c : List P) → length c ≤ length h.used → length (memory (replaced h c)) ≡ length (memory h)
  replaced_size h c l =
      omega (arith, length-append c (drop (length c) (memory h)), length-drop (length c) (memory h), length-append h.used h.free)

  fits_from : (h k : Held P) → length (memory k) ≡ length (memory h) → length k.used ≤ room h → Fits h k
  fits_from h k e l = record { size = e; within = rw e l }

module _ {P : Type 0} (m : Meaning P) where
  -- the cover after the links
  pub after_links_used : (test : Test) (h : Held P) (ls : List (Group P)) (d : List P) → Links m test h.used ls d → (after_links m h ls).used ≡ d
  after_links_used test h [] d e = e
  after_links_used test h (g ∷ ls) d e = after_links_used test (replaced h (result m h.used g)) ls d e.2

  after_links_fits : (h : Held P) (ls : List (Group P)) → Lowering m h.used ls → length h.used ≤ room h → Fits h (after_links m h ls)
  after_links_fits h [] low l = record { size = refl; within = l }
  after_links_fits h (g ∷ ls) low l =
      let d = result m h.used g in
      let short = lower_count _ _ _ _ low.0 in
      let one = replaced_size h d short in
      let rest = after_links_fits (replaced h d) ls low.1 (rw one (omega arith)) in
      record { size = rest.size ∙ one; within = rest.within }

module _ {P : Type 0} (m : Meaning P) (laws : Laws m) where
  -- links that get the cover lower leave it standing for the same products
  links_sound : (test : Test) (es c : List P) (ls : List (Group P)) (d : List P) → Links m test c ls d → Lowering m c ls → Sound m es c → Sound m es d
  links_sound test es c [] d h low s = subst (Sound m es) h s
  links_sound test es c (g ∷ ls) d h low s =
      let r = relinks m laws c g h.0 in
      let short = lower_count _ _ _ _ low.0 in
      links_sound test es (result m c g) ls d h.2 low.1
      (record {
        parity = λ x. r.parity x ∙ s.parity x;
        apart = r.apart s.apart;
        count = omega (arith, s.count);
      })

  entering_sound : (es c ps : List P) → Sound m es c → Sound m (es ++ ps) (entered_all m ps c)
  entering_sound es c ps s =
      record {
        parity = λ x. omega (arith, all_parity m laws ps c x, s.parity x, covering_append m x es ps);
        apart = all_apart m laws ps c s.apart;
        count = omega (arith, all_count m laws ps c, s.count, length-append es ps);
      }

  same_sound : (es c : List P) → Sound m es c → Sound m (es ++ []) c
  same_sound es c s = rw (append-nil es) s

module _ {P Y : Type 0} (m : Meaning P) (laws : Laws m) (keeps : Y → Test) (strict : (y : Y) → Strict (keeps y)) where
  -- what stands at every moment
  record Stands (es : List P) (h : Held P) : Type 0 where
    sound : Sound m es h.used
    within : length h.used ≤ room h

  -- what each turn owes
  record Good (es : List P) (h : Held P) (r : Request P Y) (s : Reply P) : Type 0 where
    sound : Sound m (es ++ handed_in s.answer r) s.held.used
    right : Right m keeps s.answer r h s.held
    fits : Fits h s.held

  refusing : (q : ℕ) (es : List P) (h : Held P) (r : Request P Y) → Stands es h → Good es h r (refuse q h)
  refusing q es h r s = record { sound = same_sound m laws es h.used s.sound; right = refl; fits = record { size = refl; within = s.within } }

  module _ (es : List P) (h : Held P) (s : Stands es h) where
    entering_fits : (ps : List P) → length h.used + length ps ≤ room h → Fits h (record { used = entered_all m ps h.used; free = spared_all m ps h.used h.free })
    entering_fits ps l =
        let all = length-append h.used h.free in
        let enough : length ps ≤ length h.free = omega arith in
        fits_from h _ (omega (arith, all_size m laws ps h.used h.free enough, length-append (entered_all m ps h.used) (spared_all m ps h.used h.free))) (omega (arith, all_count m laws ps h.used))

    good_one : (p : P) → Good es h (enter p) (admitted m h (p ∷ []))
    good_one p =
        cond_both (leb (length h.used + 1) (room h)) _ _ (Good es h (enter p))
        (λ l. record { sound = entering_sound m laws es h.used (p ∷ []) s.sound; right = refl; fits = entering_fits (p ∷ []) (leb-true _ _ l) })
        (λ _. refusing 1 es h (enter p) s)

    good_list : (ps : List P) → Good es h (enter_list ps) (admitted m h ps)
    good_list ps =
        cond_both (leb (length h.used + length ps) (room h)) _ _ (Good es h (enter_list ps))
        (λ l. record { sound = entering_sound m laws es h.used ps s.sound; right = refl; fits = entering_fits ps (leb-true _ _ l) })
        (λ _. refusing 1 es h (enter_list ps) s)

    module _ (y : Y) (p q o w : ℕ) where
      abbrev Goal : Reply P → Type 0
      Goal = Good es h (link_by y p q o w)

      denied : (n : ℕ) → Goal (refuse n h)
      denied n = refusing n es h (link_by y p q o w) s

      kept : (a b : P) → let g : Group P = record { first = p; second = q; a = a; b = b; number = o } in IsGroup m h.used g → says m (keeps y) h.used g ≡ true → Goal (accept (replaced h (result m h.used g)))
      kept a b is agreed =
          let g : Group P = record { first = p; second = q; a = a; b = b; number = o } in
          let d = result m h.used g in
          let ls : KeptLinks m (keeps y) h.used (g ∷ []) d = record { chain = (is, agreed, refl); lowering = (strict y _ _ _ _ _ agreed, tt) } in
          let short = lower_count _ _ _ _ ls.lowering.0 in
          record {
            sound = same_sound m laws es d (links_sound m laws (keeps y) es h.used (g ∷ []) d ls.chain ls.lowering s.sound);
            right = (refl, (a, b, ls));
            fits = fits_from h (replaced h d) (replaced_size h d short) (omega (arith, s.within));
          }

      judged_good : (a b : P) → p < q → slice_get h.used p ≡ Some a → slice_get h.used q ≡ Some b → Goal (judged m (keeps y) h w (record { first = p; second = q; a = a; b = b; number = o }))
      unfolding judged
      judged_good a b l ea eb =
          let g : Group P = record { first = p; second = q; a = a; b = b; number = o } in
          cond_both (spans (distance m a b)) _ _ Goal
          (λ t. let (two, four) = spans_true (distance m a b) t in
          cond_both (ltb o (factorial (distance m a b))) _ _ Goal
          (λ n. cond_both (leb (length h.used + 2) w) _ _ Goal
          (λ _. cond_both (says m (keeps y) h.used g) _ _ Goal
          (λ agreed. kept a b (record { ascending = l; at_first = ea; at_second = eb; two = two; four = four; numbered = ltb-true _ _ n }) agreed)
          (λ _. denied 7))
          (λ _. denied 6))
          (λ _. denied 5))
          (λ _. denied 4)

      linked_with_good : (b : Option P) → p < q → slice_get h.used q ≡ b → Goal (linked_with m (keeps y) h p q o w b)
      linked_with_good None l e = denied 3
      linked_with_good (Some b) l e =
          judged_good (get_or h.used p b) b l (slice_get-get_or h.used p b (omega (arith, (nth_is h.used q b e).0))) e

      linked_good : Goal (linked m (keeps y) h p q o w)
      unfolding linked
      linked_good = cond_both (ltb p q) _ _ Goal (λ l. linked_with_good (slice_get h.used q) (ltb-true p q l) refl) (λ _. denied 2)

    ran_good : (y : Y) (b w : ℕ) → Good es h (run_by y b w) (ran_by m (keeps y) h b w)
    unfolding ran_by
    ran_good y b w =
        let r = run m (keeps y) b h.used in
        let ls = kept_of r.trials in
        let chain = run_links m (keeps y) b h.used in
        let low = links_lower m (keeps y) (strict y) h.used ls r.cover chain in
        let is = after_links_used m (keeps y) h ls r.cover chain in
        let fit = after_links_fits m h ls low s.within in
        cond_both (leb (length h.used + 2) w) _ _ (Good es h (run_by y b w))
        (λ _. record {
          sound = same_sound m laws es r.cover (links_sound m laws (keeps y) es h.used ls r.cover chain low s.sound);
          right = (ls, record { chain = chain; lowering = low }, run_keeps m (keeps y) b h.used);
          fits = subst (λ c. Fits h (record { used = c; free = (after_links m h ls).free })) is fit;
        })
        (λ _. refusing 6 es h (run_by y b w) s)

  good : (es : List P) (h : Held P) (r : Request P Y) → Stands es h → Good es h r (served m keeps h r)
  unfolding served
  good es h (enter p) s = good_one es h s p
  good es h (enter_list ps) s = good_list es h s ps
  good es h (link_by y p q o w) s = linked_good es h s y p q o w
  good es h (run_by y b w) s = ran_good es h s y b w

  stands_next : (es : List P) (h : Held P) (r : Request P Y) → Stands es h → Stands (es ++ handed_in (served m keeps h r).answer r) (served m keeps h r).held
  stands_next es h r s = let g = good es h r s in record { sound = g.sound; within = g.fits.within }

  -- what the n-th turn owes, where es were accepted before the first
  record Fair (es : List P) (ts : List (Turn P Y)) (n : ℕ) (t : Turn P Y) : Type 0 where
    sound : Sound m (es ++ accepted (take (suc n) ts)) t.after.used
    right : Right m keeps t.answer t.request t.before t.after
    fits : Fits t.before t.after

  turns_fair : (rs : List (Request P Y)) (es : List P) (h : Held P) → Stands es h → (n : ℕ) (t : Turn P Y) → slice_get (turns m keeps h rs) n ≡ Some t → Fair es (turns m keeps h rs) n t
  unfolding turns
  turns_fair [] es h s n t e = absurd (let z : ◌≡◌ {A = ℕ} 0 1 = cc in omega arith)
  turns_fair (r ∷ rs) es h s zero t e =
      let z : turn_of m keeps h r ≡ t = cc in
      let g = good es h r s in
      subst (Fair es (turns m keeps h (r ∷ rs)) 0) z
      (record { sound = rw (append-nil (handed_in (served m keeps h r).answer r)) g.sound; right = g.right; fits = g.fits })
  turns_fair (r ∷ rs) es h s (suc n) t e =
      let a = served m keeps h r in
      let f = turns_fair rs (es ++ handed_in a.answer r) a.held (stands_next es h r s) n t e in
      record {
        sound = rw (← (append_assoc es (handed_in a.answer r) (accepted (take (suc n) (turns m keeps a.held rs))))) f.sound;
        right = f.right;
        fits = f.fits;
      }

  turns_follow : (rs : List (Request P Y)) (h : Held P) (n : ℕ) (u t : Turn P Y) → slice_get (turns m keeps h rs) n ≡ Some u → slice_get (turns m keeps h rs) (suc n) ≡ Some t → t.before ≡ u.after
  unfolding turns
  turns_follow [] h n u t eu et = absurd (let z : ◌≡◌ {A = ℕ} 0 1 = cc in omega arith)
  turns_follow (r ∷ []) h n u t eu et = absurd (let z : ◌≡◌ {A = ℕ} 0 1 = cc in omega arith)
  turns_follow (r ∷ q ∷ rs) h zero u t eu et =
      let zu : turn_of m keeps h r ≡ u = cc in
      let zt : turn_of m keeps (served m keeps h r).held q ≡ t = cc in
      sym (ap (λ v. v.before) zt) ∙ ap (λ v. v.after) zu
  turns_follow (r ∷ q ∷ rs) h (suc n) u t eu et = turns_follow (q ∷ rs) (served m keeps h r).held n u t eu et

  turns_start : (rs : List (Request P Y)) (h : Held P) (t : Turn P Y) → slice_get (turns m keeps h rs) 0 ≡ Some t → t.before ≡ h
  unfolding turns
  turns_start [] h t e = absurd (let z : ◌≡◌ {A = ℕ} 0 1 = cc in omega arith)
  turns_start (r ∷ rs) h t e = let z : turn_of m keeps h r ≡ t = cc in sym (ap (λ v. v.before) z)

  pub histories_keep : (places : List P) (rs : List (Request P Y)) → Kept m keeps (turns m keeps (opened places) rs)
  histories_keep places rs =
      let start : Stands [] (opened places) =
      record {
        sound = record { parity = λ x. refl; apart = λ i j a b l ea eb. absurd (let z : ◌≡◌ {A = ℕ} 0 1 = cc in omega arith); count = omega arith };
        within = omega arith;
      }
      in
      let fair = turns_fair rs [] (opened places) start in
      record {
        starts = λ t e. ap (λ k. k.used) (turns_start rs (opened places) t e);
        follows = turns_follow rs (opened places);
        sound = λ n t e. (fair n t e).sound;
        right = λ n t e. (fair n t e).right;
        fits = λ n t e. (fair n t e).fits;
      }
