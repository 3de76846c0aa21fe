-- `entered` and `spared` by their cases, with no number of rounds.
use Rattle.std.proofs.Common.{◌≡◌, ℕ, zero, suc, ◌≤◌, List, [], ◌∷◌, ◌++◌, length, get_or, drop, Some, None, Option, sym, refl, ap, ◌∙◌, arith}
use Rattle.std.specs.List.{remove}
use Rattle.std.proofs.lemmas.List.Edits.{length-remove}
use Rattle.std.proofs.lemmas.List.{nil_from_length, get_or_read}
use Rattle.esop.specs.Kind.{Meaning, differing, distance, nth_difference}
use Rattle.esop.specs.Entering.{seek, met, arrived, entered_within, entered, entered_all, freed, spared_met, spared_arrived, spared_within, spared, spared_all}
use Rattle.esop.proofs.Positions.{only_difference}
use Rattle.esop.proofs.Seeking.{seek_found}

module _ {P : Type 0} (m : Meaning P) (p : P) (c : List P) where
  none_within : (n : ℕ) → seek m p c ≡ None → entered_within m n p c ≡ c ++ p ∷ []
  unfolding entered_within
  none_within zero e = refl
  none_within (suc n) e = ap (arrived m (entered_within m n) p c) e

  -- nothing is near: p goes to the end
  pub entered_none : seek m p c ≡ None → entered m p c ≡ c ++ p ∷ []
  unfolding entered
  entered_none e = none_within (length c) e

  none_spared : (n : ℕ) (free : List P) → seek m p c ≡ None → spared_within m n p c free ≡ drop 1 free
  unfolding spared_within
  none_spared zero free e = refl
  none_spared (suc n) free e = ap (spared_arrived m (spared_within m n) p c free) e

  pub spared_none : (free : List P) → seek m p c ≡ None → spared m p c free ≡ drop 1 free
  unfolding spared
  spared_none free e = none_spared (length c) free e

  module _ (i : ℕ) (e : seek m p c ≡ Some i) where
    shorter : length c ≡ suc (length (remove c i))
    shorter = omega (arith, length-remove c i (seek_found m p c i e).within)

    -- the product at place i is near: by the positions at which it differs
    pub entered_met : (ds : List ℕ) → differing m p (get_or c i p) ≡ ds → entered m p c ≡ met m (entered m) p c i (get_or c i p) ds
    unfolding entered entered_within
    entered_met ds d =
        ap (λ n. entered_within m n p c) shorter
        ∙ ap (arrived m (entered_within m (length (remove c i))) p c) e
        ∙ ap (met m (entered_within m (length (remove c i))) p c i (get_or c i p)) d
        ∙ go ds
      where
        go : (ds : List ℕ) → met m (entered_within m (length (remove c i))) p c i (get_or c i p) ds ≡ met m (entered m) p c i (get_or c i p) ds
        go [] = refl
        go (d ∷ ds) = refl

    pub spared_step : (free : List P) (ds : List ℕ) → differing m p (get_or c i p) ≡ ds → spared m p c free ≡ spared_met m (spared m) p c free i (get_or c i p) ds
    unfolding spared spared_within
    spared_step free ds d =
        ap (λ n. spared_within m n p c free) shorter
        ∙ ap (spared_arrived m (spared_within m (length (remove c i))) p c free) e
        ∙ ap (spared_met m (spared_within m (length (remove c i))) p c free i (get_or c i p)) d
        ∙ go ds
      where
        go : (ds : List ℕ) → spared_met m (spared_within m (length (remove c i))) p c free i (get_or c i p) ds ≡ spared_met m (spared m) p c free i (get_or c i p) ds
        go [] = refl
        go (d ∷ ds) = refl

    -- the product q that was read there
    module _ (q : P) (read : q ≡ get_or c i q) where
      is_read : q ≡ get_or c i p
      is_read = get_or_read c i q (seek_found m p c i e).within read p

      -- at distance 0
      pub entered_same : distance m p q ≡ 0 → entered m p c ≡ remove c i
      entered_same z = entered_met [] (ap (differing m p) (sym is_read) ∙ nil_from_length (differing m p q) z)

      pub spared_same : (free : List P) → distance m p q ≡ 0 → spared m p c free ≡ freed c free
      spared_same free z = spared_step free [] (ap (differing m p) (sym is_read) ∙ nil_from_length (differing m p q) z)

      the_position : (d : ℕ) → nth_difference m p q 0 ≡ Some d → differing m p (get_or c i p) ≡ d ∷ []
      the_position d z =
          let near : distance m p q ≤ 1 = rw is_read (seek_found m p c i e).near in
          ap (differing m p) (sym is_read) ∙ only_difference m p q d near z

      -- at distance 1, where d is the position that differs
      pub entered_join : (d : ℕ) → nth_difference m p q 0 ≡ Some d → entered m p c ≡ entered m (m.joined p d q) (remove c i)
      entered_join d z = entered_met (d ∷ []) (the_position d z) ∙ ap (λ y. entered m (m.joined p d y) (remove c i)) (sym is_read)

      pub spared_join : (free : List P) (d : ℕ) → nth_difference m p q 0 ≡ Some d → spared m p c free ≡ spared m (m.joined p d q) (remove c i) (freed c free)
      spared_join free d z = spared_step free (d ∷ []) (the_position d z) ∙ ap (λ y. spared m (m.joined p d y) (remove c i) (freed c free)) (sym is_read)

  is_within : (o : Option ℕ) → seek m p c ≡ o → entered m p c ≡ arrived m (entered m) p c o
  is_within None e = entered_none e
  is_within (Some i) e = entered_met i e (differing m p (get_or c i p)) refl

  pub entered_is : entered m p c ≡ arrived m (entered m) p c (seek m p c)
  entered_is = is_within (seek m p c) refl

  spared_is_within : (free : List P) (o : Option ℕ) → seek m p c ≡ o → spared m p c free ≡ spared_arrived m (spared m) p c free o
  spared_is_within free None e = spared_none free e
  spared_is_within free (Some i) e = spared_step i e free (differing m p (get_or c i p)) refl

  pub spared_is : (free : List P) → spared m p c free ≡ spared_arrived m (spared m) p c free (seek m p c)
  spared_is free = spared_is_within free (seek m p c) refl

module _ {P : Type 0} (m : Meaning P) where
  pub entered_all_nil : (c : List P) → entered_all m [] c ≡ c
  unfolding entered_all
  entered_all_nil c = refl

  pub entered_all_cons : (p : P) (ps c : List P) → entered_all m (p ∷ ps) c ≡ entered_all m ps (entered m p c)
  unfolding entered_all
  entered_all_cons p ps c = refl

  pub spared_all_nil : (c free : List P) → spared_all m [] c free ≡ free
  unfolding spared_all
  spared_all_nil c free = refl

  pub spared_all_cons : (p : P) (ps c free : List P) → spared_all m (p ∷ ps) c free ≡ spared_all m ps (entered m p c) (spared m p c free)
  unfolding spared_all
  spared_all_cons p ps c free = refl
