-- The positions at which two products differ: how often each stands among them, their order, and what a take and a join change.
use Rattle.std.proofs.Common.{◌≡◌, ℕ, zero, suc, ◌+◌, ◌%◌, ◌<◌, ◌≤◌, Bool, true, false, cond, not, ◌&&◌, eqb, ltb, List, [], ◌∷◌, ◌++◌, length, get_or, Some, sym, refl, ap, ◌∙◌, ap₂, ⊎_elim, arith}
use Rattle.std.specs.List.{slice_get, remove}
use Rattle.std.proofs.lemmas.Bool.{cases_lt, and_right, eq-eqb}
use Rattle.std.proofs.lemmas.Bool.Decides.{nat_tests}
use Rattle.esop.specs.Kind.{Meaning, Laws, either, differs, differing_below, differing, distance, nth_difference}
use Rattle.esop.specs.Entering.{bit}
use Rattle.esop.specs.Linking.{occurs, Ascending}
use Rattle.esop.proofs.Differing.{differs_past}
use Rattle.esop.proofs.Passing.{passing, passing_ascending, occurs_passing, passing_less}

pub bit_false : (b : Bool) → 0 ≡ bit b → b ≡ false
bit_false true e = absurd (omega arith)
bit_false false e = refl

bit_same : (b c : Bool) → bit b ≡ bit c → b ≡ c
bit_same true true e = refl
bit_same true false e = absurd (omega arith)
bit_same false true e = absurd (omega arith)
bit_same false false e = refl

bit_either : (a b : Bool) → bit (either a b) ≡ (bit a + bit b) % 2
bit_either true true = refl
bit_either true false = refl
bit_either false true = refl
bit_either false false = refl

twice : (x y : Bool) → bit (x && (x && y)) ≡ bit (x && y)
twice true y = refl
twice false y = refl

module _ {P : Type 0} (m : Meaning P) where
  below_passing : (a b : P) (n : ℕ) → differing_below m a b n ≡ passing (differs m a b) n
  unfolding differing_below
  below_passing a b zero = refl
  below_passing a b (suc n) = ap (λ xs. xs ++ cond (differs m a b n) (n ∷ []) []) (below_passing a b n)

  differing_passing : (a b : P) → differing m a b ≡ passing (differs m a b) m.width
  differing_passing a b = below_passing a b m.width

  -- a position stands among them once if it differs, and else not at all
  pub occurs_differing : (a b : P) (j : ℕ) → occurs j (differing m a b) ≡ bit (differs m a b j)
  occurs_differing a b j = ap (occurs j) (differing_passing a b) ∙ occurs_passing (differs m a b) j m.width ∙ twice (ltb j m.width) _

  pub differing_ascending : (a b : P) → Ascending (differing m a b)
  differing_ascending a b i j l h =
      let e = differing_passing a b in
      rw e (passing_ascending (differs m a b) m.width i j l (omega (arith, ap length e)))

  -- at distance 0 they differ nowhere
  pub differ_nowhere : (a b : P) → differing m a b ≡ [] → (j : ℕ) → differs m a b j ≡ false
  differ_nowhere a b e j = bit_false _ (sym (ap (occurs j) e) ∙ occurs_differing a b j)

  -- at distance 1 they differ at one position only
  pub differ_once : (a b : P) (d : ℕ) → differing m a b ≡ d ∷ [] → (j : ℕ) → differs m a b j ≡ eqb d j
  differ_once a b d e j = bit_same _ _ (sym (occurs_differing a b j) ∙ ap (occurs j) e ∙ omega arith)

  -- the one position, as the 0-th that differs
  pub only_difference : (a b : P) (d : ℕ) → distance m a b ≤ 1 → nth_difference m a b 0 ≡ Some d → differing m a b ≡ d ∷ []
  only_difference a b d near e = go (differing m a b) near e
    where
      go : (ds : List ℕ) → length ds ≤ 1 → slice_get ds 0 ≡ Some d → ds ≡ d ∷ []
      go [] l e = absurd (let z : ◌≡◌ {A = ℕ} 0 1 = cc in omega arith)
      go (x ∷ []) l e = let z : x ≡ d = cc in ap (λ y. y ∷ []) z
      go (x ∷ y ∷ ds) l e = absurd (omega arith)

  differs_sym : (a b : P) (i : ℕ) → differs m a b i ≡ differs m b a i
  differs_sym a b i = grind (arith, nat_tests)

  below_sym : (a b : P) (n : ℕ) → differing_below m a b n ≡ differing_below m b a n
  unfolding differing_below
  below_sym a b zero = refl
  below_sym a b (suc n) = ap₂ (λ s t. s ++ cond t (n ∷ []) []) (below_sym a b n) (differs_sym a b n)

  pub distance_sym : (a b : P) → distance m a b ≡ distance m b a
  distance_sym a b = ap length (below_sym a b m.width)

module _ {P : Type 0} (m : Meaning P) (laws : Laws m) where
  -- the join of two products that differ at one position covers a point as often as the two together, modulo 2. Merges on entering, and the
  -- products along a link, both add up by this.
  pub join_parity : (a b : P) (d : ℕ) → ((j : ℕ) → differs m a b j ≡ eqb d j) → (x : ℕ) → bit (m.covers (m.joined a d b) x) ≡ (bit (m.covers a x) + bit (m.covers b x)) % 2
  join_parity a b d only x = ap bit (laws.join_covers a b d only x) ∙ bit_either (m.covers a x) (m.covers b x)

  -- products that differ nowhere cover a point alike
  pub same_parity : (a b : P) → ((j : ℕ) → differs m a b j ≡ false) → (x : ℕ) → bit (m.covers a x) ≡ bit (m.covers b x)
  same_parity a b nowhere x = ap bit (laws.same a b nowhere x)

  differs_taken_in : (a b : P) (d j : ℕ) → j < m.width → differs m (m.taken a d b) b j ≡ cond (eqb d j) false (differs m a b j)
  differs_taken_in a b d j h =
      ap (λ v. ltb j m.width && not (eqb v (m.value b j))) (laws.positions.take_value a b d j h)
      ∙ elim (eqb d j) as (λ t. (ltb j m.width && not (eqb (cond t (m.value b j) (m.value a j)) (m.value b j))) ≡ cond t false (differs m a b j)) [
        | true ↦ and_right _ _ (ap not (eq-eqb (m.value b j) (m.value b j) refl))
        | false ↦ refl
      ]

  no_more : (t : Bool) → cond t false false ≡ false
  no_more true = refl
  no_more false = refl

  -- a position that a takes from b differs no more, and each other stays as it was
  pub differs_taken : (a b : P) (d j : ℕ) → differs m (m.taken a d b) b j ≡ cond (eqb d j) false (differs m a b j)
  differs_taken a b d j =
      ⊎_elim (differs_taken_in a b d j)
      (λ past. differs_past m (m.taken a d b) b j past ∙ sym (ap (cond (eqb d j) false) (differs_past m a b j past) ∙ no_more (eqb d j)))
      (cases_lt j m.width)

  taken_same : (e l : Bool) (u v : ℕ) → (l && not (eqb u (cond e v u))) ≡ cond e (l && not (eqb u v)) false
  taken_same true l u v = refl
  taken_same false l u v = and_right _ _ (ap not (eq-eqb u u refl))

  -- a product and its take differ at that position only
  pub take_differs : (a b : P) (d : ℕ) → differs m a b d ≡ true → (j : ℕ) → differs m a (m.taken a d b) j ≡ eqb d j
  take_differs a b d h j =
      ⊎_elim
      (λ k. ap (λ v. ltb j m.width && not (eqb (m.value a j) v)) (laws.positions.take_value a b d j k) ∙ taken_same (eqb d j) (ltb j m.width) (m.value a j) (m.value b j) ∙ here (eqb d j) refl)
      (λ k. differs_past m a (m.taken a d b) j k ∙ past k)
      (cases_lt j m.width)
    where
      here : (t : Bool) → eqb d j ≡ t → cond t (differs m a b j) false ≡ t
      here true e = grind (arith, nat_tests)
      here false e = refl

      past : m.width ≤ j → false ≡ eqb d j
      past k = grind (arith, nat_tests)

  pub differing_taken : (a b : P) (i : ℕ) → i < distance m a b → differing m (m.taken a (get_or (differing m a b) i 0) b) b ≡ remove (differing m a b) i
  differing_taken a b i h =
      let d = get_or (differing m a b) i 0 in
      let e = differing_passing m a b in
      differing_passing m (m.taken a d b) b
      ∙ passing_less (differs m a b) (differs m (m.taken a d b) b) d (differs_taken a b d) m.width i (omega (arith, ap length e)) (ap (λ ds. get_or ds i 0) (sym e))
      ∙ ap (λ ds. remove ds i) (sym e)
