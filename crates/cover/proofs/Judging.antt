-- The questions before a link, one by one.
use Rattle.std.proofs.Common.{◌≡◌, ℕ, suc, ◌+◌, ◌-◌, ◌/◌, ◌<◌, ◌≤◌, Bool, true, false, cond, ltb, List, length, get_or, is_some, Some, sym, refl, ap, ◌∙◌, subst, arith}
use Rattle.std.specs.List.{slice_get}
use Rattle.std.proofs.lemmas.Option.{slice_get_past, slice_get-get_or}
use Rattle.std.proofs.lemmas.Bool.{cond-true, cond-false, lt-ltb, le-ltb, le-leb, lt-leb}
use Rattle.esop.specs.Kind.{Meaning, distance, differing, nth_difference}
use Rattle.esop.specs.Criterion.{Test}
use Rattle.esop.specs.Linking.{factorial, Group, IsGroup, span}
use Rattle.esop.specs.Running.{spans}
use Rattle.esop.specs.History.{Held, refuse, judged, linked_with, linked}
use Rattle.esop.proofs.Arranging.{factorial_pos, order_first}
use Rattle.esop.proofs.Groups.{spans_true}
use Rattle.esop.proofs.Linking.{nth_is}
use Rattle.cover.specs.Trying.{Reads, decided}

-- how many groups a pair makes: none, or as many as it has orders
pub orders_none : (k r : ℕ) → r ≡ cond (spans k) (factorial k) 0 → r ≡ 0 → spans k ≡ false
orders_none k r e z = go (spans k) e
  where
    go : (t : Bool) → r ≡ cond t (factorial k) 0 → t ≡ false
    go true e = absurd (omega (arith, factorial_pos k))
    go false e = refl

pub orders_some : (k r : ℕ) → r ≡ cond (spans k) (factorial k) 0 → (r ≡ 0 → ⊥) → (spans k ≡ true) × (r ≡ factorial k)
orders_some k r e z = go (spans k) e
  where
    go : (t : Bool) → r ≡ cond t (factorial k) 0 → (t ≡ true) × (r ≡ factorial k)
    go true e = (refl, e)
    go false e = absurd (z e)

pub orders_at : {k n : ℕ} → k ≡ n → cond (spans k) (factorial k) 0 ≡ cond (spans n) (factorial n) 0
orders_at e = ap (λ j. cond (spans j) (factorial j) 0) e

-- a group that was read has the places and the order number that were asked for
pub group_is : {P : Type 0} (c : List P) (p q o : ℕ) (g : Group P) → Reads c p q o g → record { first = p; second = q; a = g.a; b = g.b; number = o } ≡ g
group_is c p q o g r =
    ap (λ n. record { first = n; second = q; a = g.a; b = g.b; number = o }) (sym r.first)
    ∙ ap (λ n. record { first = g.first; second = n; a = g.a; b = g.b; number = o }) (sym r.second)
    ∙ ap (λ n. record { first = g.first; second = g.second; a = g.a; b = g.b; number = n }) (sym r.number)

module _ {P : Type 0} (m : Meaning P) where
  -- an order number names one of the positions that differ
  pub position_there : (t b : P) (o k f : ℕ) → 0 < k → k ≡ distance m t b → o < factorial k → f ≡ factorial (k - 1) → is_some (nth_difference m t b (o / f)) ≡ true
  position_there t b o k f some is-k below is_f =
      let next : k ≡ suc (k - 1) = omega arith in
      let below' : o < factorial (suc (k - 1)) = subst (λ n. o < factorial n) next below in
      let place : o / f < distance m t b = subst (λ n. o / n < distance m t b) (sym is_f) (omega (arith, order_first (k - 1) o below')) in
      ap is_some (slice_get-get_or (differing m t b) (o / f) 0 place)

  -- a group that was read is one of the cover
  pub is_group : (c : List P) (p q o : ℕ) (g : Group P) → Reads c p q o g → p < q → spans (span m g) ≡ true → o < factorial (span m g) → IsGroup m c g
  is_group c p q o g r l s n =
      let near = spans_true (span m g) s in
      record { ascending = omega (arith, r.first, r.second); at_first = r.at_first; at_second = r.at_second; two = near.0; four = near.1; numbered = omega (arith, r.number) }

  module _ (test : Test) (h : Held P) (p q o w : ℕ) where
    pub not_ordered : q ≤ p → linked m test h p q o w ≡ refuse 2 h
    unfolding linked
    not_ordered l = cond-false _ _ _ (le-ltb p q l)

    pub not_in_use : p < q → length h.used ≤ q → linked m test h p q o w ≡ refuse 3 h
    unfolding linked
    not_in_use l past = cond-true _ _ _ (lt-ltb p q l) ∙ ap (linked_with m test h p q o w) (slice_get_past h.used q past)

    module _ (g : Group P) (reads : Reads h.used p q o g) (l : p < q) where
      read_first : get_or h.used p g.b ≡ g.a
      read_first =
          let at : slice_get h.used p ≡ Some g.a = ap (slice_get h.used) (sym reads.first) ∙ reads.at_first in
          let is = slice_get-get_or h.used p g.b (nth_is h.used p g.a at).0 in
          cc

      to_judged : linked m test h p q o w ≡ judged m test h w g
      unfolding linked
      to_judged =
          let at : slice_get h.used q ≡ Some g.b = ap (slice_get h.used) (sym reads.second) ∙ reads.at_second in
          let same : record { first = p; second = q; a = get_or h.used p g.b; b = g.b; number = o } ≡ g =
          ap (λ x. record { first = p; second = q; a = x; b = g.b; number = o }) read_first ∙ group_is h.used p q o g reads
          in
          cond-true _ _ _ (lt-ltb p q l) ∙ ap (linked_with m test h p q o w) at ∙ ap (judged m test h w) same

      pub no_group : spans (span m g) ≡ false → linked m test h p q o w ≡ refuse 4 h
      unfolding judged
      no_group s = to_judged ∙ cond-false _ _ _ s

      module _ (s : spans (span m g) ≡ true) where
        pub no_order : factorial (span m g) ≤ o → linked m test h p q o w ≡ refuse 5 h
        unfolding judged
        no_order k = to_judged ∙ cond-true _ _ _ s ∙ cond-false _ _ _ (le-ltb g.number (factorial (span m g)) (omega (arith, reads.number)))

        module _ (n : o < factorial (span m g)) where
          numbered : ltb g.number (factorial (span m g)) ≡ true
          numbered = lt-ltb g.number (factorial (span m g)) (omega (arith, reads.number))

          pub no_work : w < length h.used + 2 → linked m test h p q o w ≡ refuse 6 h
          unfolding judged
          no_work k = to_judged ∙ cond-true _ _ _ s ∙ cond-true _ _ _ numbered ∙ cond-false _ _ _ (lt-leb (length h.used + 2) w k)

          pub decides : length h.used + 2 ≤ w → linked m test h p q o w ≡ decided m test h g
          unfolding judged
          decides k = to_judged ∙ cond-true _ _ _ s ∙ cond-true _ _ _ numbered ∙ cond-true _ _ _ (le-leb (length h.used + 2) w k)
