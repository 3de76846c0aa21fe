-- The positions at which two products differ, counted and listed one position more at a time.
use Rattle.std.proofs.Common.{◌≡◌, ℕ, zero, suc, ◌+◌, ◌<◌, ◌≤◌, Bool, true, false, cond, List, [], ◌∷◌, ◌++◌, length, get_or, Some, None, sym, refl, ap, ◌∙◌, ap₂, append_assoc, add-one, arith, length-append}
use native.Mathlib.Decide.{le_ind}
use Rattle.std.proofs.lemmas.List.{append-nil, get_or_append_left, get_or_push}
use Rattle.std.proofs.lemmas.Option.{slice_get-get_or, slice_get_past}
use Rattle.std.proofs.lemmas.Bool.{and_left, and_parts, le-ltb, ltb-true}
use Rattle.esop.specs.Kind.{Meaning, differs, differing_below, differing, distance, nth_difference}

length_cond : (t : Bool) (n : ℕ) → length (cond t (n ∷ []) []) ≡ cond t 1 0
length_cond true n = refl
length_cond false n = refl

module _ {P : Type 0} (m : Meaning P) (a b : P) where
  -- the number of positions below n at which a and b differ
  abbrev pub differences : ℕ → ℕ
  differences zero = 0
  differences (suc n) = differences n + cond (differs m a b n) 1 0

  more : (n : ℕ) → differences (n + 1) ≡ differences n + cond (differs m a b n) 1 0
  more n = ap differences (add-one n)

  -- one position more, by what a call of `differs` answered for it
  pub more_yes : (n : ℕ) → true ≡ differs m a b n → differences (n + 1) ≡ differences n + 1
  more_yes n h = more n ∙ ap (λ t. differences n + cond t 1 0) (sym h)

  pub more_no : (n : ℕ) → false ≡ differs m a b n → differences (n + 1) ≡ differences n
  more_no n h = more n ∙ ap (λ t. differences n + cond t 1 0) (sym h) ∙ omega arith

  abbrev below : ℕ → List ℕ
  below n = differing_below m a b n

  -- what position n adds to the list
  abbrev added : ℕ → List ℕ
  added n = cond (differs m a b n) (n ∷ []) []

  below_suc : (n : ℕ) → below (suc n) ≡ below n ++ added n
  unfolding differing_below
  below_suc n = refl

  pub length_below : (n : ℕ) → length (below n) ≡ differences n
  unfolding differing_below
  length_below zero = refl
  length_below (suc n) = length-append (below n) (added n) ∙ ap₂ (λ k l. k + l) (length_below n) (length_cond (differs m a b n) n)

  -- past the last position nothing differs, so looking further finds no more
  pub differs_past : (n : ℕ) → m.width ≤ n → differs m a b n ≡ false
  differs_past n h = and_left _ _ (le-ltb n m.width h)

  below_past : (n : ℕ) → m.width ≤ n → below n ≡ differing m a b
  below_past n h =
      le_ind {n = m.width} (λ k. below k ≡ differing m a b) refl
      (λ k past same. below_suc k ∙ ap (λ t. below k ++ cond t (k ∷ []) []) (differs_past k past) ∙ append-nil (below k) ∙ same) n h

  pub differences_past : (n : ℕ) → m.width ≤ n → differences n ≡ distance m a b
  differences_past n h = sym (length_below n) ∙ ap length (below_past n h)

  -- the positions below n come first among those below k
  below_front : (n k : ℕ) → n ≤ k → (rest : List ℕ) × (below k ≡ below n ++ rest)
  below_front n k h =
      le_ind {n = n} (λ k. (rest : List ℕ) × (below k ≡ below n ++ rest)) ([], sym (append-nil (below n)))
      (λ k _ front. (front.0 ++ added k, below_suc k ∙ ap (λ xs. xs ++ added k) front.1 ∙ append_assoc (below n) front.0 (added k))) k h

  -- a position that differs has the number of those below it
  pub nth_here : (i n : ℕ) → differences i ≡ n → true ≡ differs m a b i → nth_difference m a b n ≡ Some i
  nth_here i n before here =
      let inside : i < m.width = ltb-true i m.width (and_parts _ _ (sym here)).0 in
      let (rest, all) = below_front (suc i) m.width (omega arith) in
      let last : below (suc i) ≡ below i ++ i ∷ [] = below_suc i ∙ ap (λ t. below i ++ cond t (i ∷ []) []) (sym here) in
      let short : n < length (below (suc i)) = omega (arith, length_below i, ap length last, length-append (below i) (i ∷ [])) in
      let long : n < length (differing m a b) = omega (arith, ap length all, length-append (below (suc i)) rest) in
      slice_get-get_or (differing m a b) n 0 long
      ∙ ap Some (ap (λ xs. get_or xs n 0) all ∙ get_or_append_left (below (suc i)) rest 0 n short
      ∙ ap (λ xs. get_or xs n 0) last ∙ get_or_push (below i) i 0 n (length_below i ∙ before))

  -- past as many as differ there is none
  pub nth_none : (k n : ℕ) → m.width ≤ k → differences k ≤ n → nth_difference m a b n ≡ None
  nth_none k n past few = slice_get_past (differing m a b) n (omega (arith, differences_past k past))
