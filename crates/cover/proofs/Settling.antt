-- A round of entering, over a memory xs whose first n places are in use.
use Rattle.std.proofs.Common.{◌≡◌, ℕ, suc, ◌+◌, ◌-◌, ◌<◌, ◌≤◌, Bool, true, false, cond, not, leb, ltb, position, List, [], ◌∷◌, ◌++◌, length, get_or, take, drop, set, Some, None, sym, refl, ap, ◌∙◌, ap₂, arith, take-append-drop}
use Rattle.std.specs.List.{slice_get, remove, position_or_len}
use Rattle.std.proofs.lemmas.List.{length-take-le, drop-append-le, take_more_set, drop-set-lt, drop-drop}
use Rattle.std.proofs.lemmas.Bool.{cond-true, cond-false, lt-ltb, le-ltb, ltb-true, ltb-false}
use Rattle.esop.specs.Kind.{Meaning, Laws, differing, distance, nth_difference}
use Rattle.esop.specs.Entering.{further, seek, entered, entered_all, freed, spared, spared_all}
use Rattle.esop.proofs.Entering.{all_count}
use Rattle.esop.proofs.Linking.{nth_is}
use Rattle.esop.proofs.Seeking.{seek_nil, seek_cons, seek_found}
use Rattle.esop.proofs.Steps.{entered_none, spared_none, entered_same, spared_same, entered_join, spared_join, entered_all_nil, entered_all_cons, spared_all_nil, spared_all_cons}
use Rattle.cover.specs.Holding.{used, free, SameLoan}
use Rattle.cover.specs.Calls.{Entries}
use Rattle.cover.specs.declared.memory.Cover.{Cover}

-- a loan that stays, and stays again
pub SameLoan-trans : {P : Type 0} {N : ℕ} {c d e : Cover P N} → SameLoan c d → SameLoan d e → SameLoan c e
SameLoan-trans f s = record { size = s.size ∙ f.size; lender = s.lender ∙ f.lender }

-- products that differ nowhere
nowhere : {P : Type 0} (m : Meaning P) (p q : P) → nth_difference m p q 0 ≡ None → distance m p q ≡ 0
nowhere m p q e = go (differing m p q) e
  where
    go : (ds : List ℕ) → slice_get ds 0 ≡ None → length ds ≡ 0
    go [] e = refl
    go (d ∷ ds) e = absurd (let z : ◌≡◌ {A = ℕ} 0 1 = cc in omega arith)

module _ {P : Type 0} (m : Meaning P) where
  -- what is sought is the first place that passes a test
  pub position_is : (p : P) (c : List P) → position (λ x. leb (distance m p x) 1) c ≡ seek m p c
  position_is p [] = sym (seek_nil m p)
  position_is p (x ∷ c) =
      go (leb (distance m p x) 1) ∙ ap (λ o. cond (leb (distance m p x) 1) (Some 0) (further o)) (position_is p c) ∙ sym (seek_cons m p x c)
    where
      later : (n : ℕ) (t : Bool) → ltb n (length c) ≡ t → cond (ltb (1 + n) (suc (length c))) (Some (1 + n)) None ≡ further (cond t (Some n) None)
      later n true e = cond-true _ _ _ (lt-ltb (1 + n) (suc (length c)) (let h = ltb-true _ _ e in omega arith)) ∙ ap Some (omega arith)
      later n false e = cond-false _ _ _ (le-ltb (1 + n) (suc (length c)) (let h = ltb-false _ _ e in omega arith))

      go : (t : Bool) → let n = position_or_len (λ x. leb (distance m p x) 1) c in cond (ltb (cond (not t) (1 + n) 0) (suc (length c))) (Some (cond (not t) (1 + n) 0)) None ≡ cond t (Some 0) (further (position (λ x. leb (distance m p x) 1) c))
      go true = cond-true _ _ _ (lt-ltb 0 (suc (length c)) (omega arith))
      go false = later _ _ refl

  -- a list of one product
  pub entered_alone : (p : P) (c : List P) → entered m p c ≡ entered_all m (p ∷ []) c
  entered_alone p c = sym (entered_all_cons m p [] c ∙ entered_all_nil m (entered m p c))

  pub spared_alone : (p : P) (c free : List P) → spared m p c free ≡ spared_all m (p ∷ []) c free
  spared_alone p c free = sym (spared_all_cons m p [] c free ∙ spared_all_nil m (entered m p c) (spared m p c free))

  module _ (p : P) (xs : List P) (n : ℕ) (fits : n ≤ length xs) where
    -- the places that are free after a removal
    freed_is : 0 < n → freed (take n xs) (drop n xs) ≡ drop (n - 1) xs
    freed_is some =
        let long : length (take n xs) ≡ n = length-take-le n xs fits in
        ap (λ k. drop (k - 1) (take n xs) ++ drop n xs) long
        ∙ sym (drop-append-le (n - 1) (take n xs) (drop n xs) (omega arith))
        ∙ ap (drop (n - 1)) (take-append-drop n xs)

    -- a product was found at place i
    module _ (i : ℕ) (found : Some i ≡ seek m p (take n xs)) where
      pub found_below : i < n
      found_below = omega (arith, (seek_found m p (take n xs) i (sym found)).within, length-take-le n xs fits)

      -- it was read as q and removed, which leaves the products us and the free places fs
      module _ (q : P) (read : slice_get (take n xs) i ≡ Some q) (us fs : List P) (list : us ≡ remove (take n xs) i) (rest : fs ≡ drop (n - 1) xs) where
        read_used : q ≡ get_or (take n xs) i q
        read_used = sym (nth_is (take n xs) i q read).1

        left_free : fs ≡ freed (take n xs) (drop n xs)
        left_free = let h = found_below in rest ∙ sym (freed_is (omega arith))

        -- at distance 0 that was all
        pub settled_same : None ≡ nth_difference m p q 0 → (us ≡ entered m p (take n xs)) × (fs ≡ spared m p (take n xs) (drop n xs))
        settled_same none =
            let z = nowhere m p q (sym none) in (
              list ∙ sym (entered_same m p (take n xs) i (sym found) q read_used z),
              left_free ∙ sym (spared_same m p (take n xs) i (sym found) q read_used (drop n xs) z),
            )

        -- at distance 1 the join is to enter
        pub settled_join : (d : ℕ) (r : P) → Some d ≡ nth_difference m p q 0 → r ≡ m.joined p d q → (entered m r us ≡ entered m p (take n xs)) × (spared m r us fs ≡ spared m p (take n xs) (drop n xs))
        settled_join d r one join = (
          ap₂ (entered m) join list ∙ sym (entered_join m p (take n xs) i (sym found) q read_used d (sym one)),
          ap₂ (λ y ys. spared m y ys fs) join list
              ∙ ap (spared m (m.joined p d q) (remove (take n xs) i)) left_free
              ∙ sym (spared_join m p (take n xs) i (sym found) q read_used (drop n xs) d (sym one)),
        )

    -- no product was found: p takes the first free place
    pub settled_end : n < length xs → None ≡ seek m p (take n xs) → (take (n + 1) (set xs n p) ≡ entered m p (take n xs)) × (drop (n + 1) (set xs n p) ≡ spared m p (take n xs) (drop n xs))
    settled_end h none = (
      take_more_set xs n p h ∙ sym (entered_none m p (take n xs) (sym none)),
      drop-set-lt (n + 1) xs n p (omega arith) ∙ sym (drop-drop 1 n xs) ∙ sym (spared_none m p (take n xs) (drop n xs) (sym none)),
    )

-- one product entered, of several to enter in turn
module _ {P : Type 0} {N : ℕ} (m : Meaning P) where
  pub one_count : Laws m → (x : P) (c d : Cover P N) → Entries m (x ∷ []) c d → d.count ≤ c.count + 1
  one_count laws x c d e =
      omega (arith, all_count m laws (x ∷ []) (used c), ap length e.list, length-take-le c.count c.places.now c.ok.0, length-take-le d.count d.places.now d.ok.0)

  pub one_entered : (x : P) (ps : List P) (c d : Cover P N) → Entries m (x ∷ []) c d → entered_all m ps (used d) ≡ entered_all m (x ∷ ps) (used c)
  one_entered x ps c d e = ap (entered_all m ps) (e.list ∙ sym (entered_alone m x (used c))) ∙ sym (entered_all_cons m x ps (used c))

  pub one_spared : (x : P) (ps : List P) (c d : Cover P N) → Entries m (x ∷ []) c d → spared_all m ps (used d) (free d) ≡ spared_all m (x ∷ ps) (used c) (free c)
  one_spared x ps c d e =
      ap₂ (spared_all m ps) (e.list ∙ sym (entered_alone m x (used c))) (e.rest ∙ sym (spared_alone m x (used c) (free c)))
      ∙ sym (spared_all_cons m x ps (used c) (free c))
