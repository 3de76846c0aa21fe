-- How a cursor over the groups of a cover moves on.
use Rattle.std.proofs.Common.{◌≡◌, ℕ, zero, suc, ◌+◌, ◌-◌, ◌<◌, ◌≤◌, Bool, true, false, cond, List, [], ◌∷◌, ◌++◌, length, get_or, drop, sym, refl, ap, ◌∙◌, ap₂, add-one, arith}
use Rattle.std.proofs.lemmas.List.{drop_more, drop_all}
use Rattle.esop.specs.Kind.{Meaning, distance}
use Rattle.esop.specs.Linking.{factorial, Group}
use Rattle.esop.specs.Running.{spans, orders_from, orders, groups_with, groups_from, groups}
use Rattle.esop.specs.Cursor.{rest_with, rest_from, rest}

module _ {P : Type 0} (m : Meaning P) (c : List P) where
  with_start : (p : ℕ) (a : P) (q : ℕ) (d : List P) → groups_with m p a q d ≡ rest_with m p a q 0 d
  unfolding groups_with
  with_start p a q [] = refl
  with_start p a q (b ∷ d) = refl

  drop_tail : (c : List P) (p : ℕ) (a : P) (d : List P) → drop p c ≡ a ∷ d → drop (suc p) c ≡ d
  drop_tail [] zero a d e = absurd (let z : ◌≡◌ {A = ℕ} 0 1 = cc in omega arith)
  drop_tail [] (suc p) a d e = absurd (let z : ◌≡◌ {A = ℕ} 0 1 = cc in omega arith)
  drop_tail (x ∷ c) zero a d e = cc
  drop_tail (x ∷ c) (suc p) a d e = drop_tail c p a d e

  from_start : (p : ℕ) (d : List P) → drop p c ≡ d → groups_from m p d ≡ rest_from m c p (p + 1) 0 d
  unfolding groups_from
  from_start p [] e = refl
  from_start p (a ∷ d) e =
      let r : drop (p + 1) c ≡ d = ap (λ n. drop n c) (add-one p) ∙ drop_tail c p a d e in
      ap (λ z. z ++ groups_from m (suc p) d) (with_start p a (suc p) d ∙ ap₂ (λ n z. rest_with m p a n 0 z) (sym (add-one p)) (sym r))

  -- the first pair, before anything is tried
  pub rest_start : groups m c ≡ rest m c 0 1 0
  unfolding rest
  rest_start = from_start 0 c refl

  -- no first place is left
  pub rest_end : (p q o : ℕ) → length c ≤ p → rest m c p q o ≡ []
  unfolding rest
  rest_end p q o l = ap (rest_from m c p q o) (drop_all p c l)

  module _ (p : ℕ) (a : P) (l : p < length c) (read : a ≡ get_or c p a) where
    first_is : drop p c ≡ a ∷ drop (p + 1) c
    first_is = drop_more c p a l ∙ ap (λ x. x ∷ drop (p + 1) c) (sym read)

    -- no second place is left: on to the next first place
    pub rest_row : (q o : ℕ) → length c ≤ q → rest m c p q o ≡ rest m c (p + 1) (p + 1 + 1) 0
    unfolding rest
    rest_row q o u =
        ap (rest_from m c p q o) first_is
        ∙ ap (λ d. rest_with m p a q o d ++ groups_from m (suc p) (drop (p + 1) c)) (drop_all q c u)
        ∙ ap (λ n. groups_from m n (drop (p + 1) c)) (sym (add-one p))
        ∙ from_start (p + 1) (drop (p + 1) c) refl

    module _ (q : ℕ) (b : P) (u : q < length c) (read' : b ≡ get_or c q b) where
      second_is : drop q c ≡ b ∷ drop (q + 1) c
      second_is = drop_more c q b u ∙ ap (λ x. x ∷ drop (q + 1) c) (sym read')

      rest_is : (o : ℕ) → rest m c p q o ≡ (orders m p q a b o ++ groups_with m p a (suc q) (drop (q + 1) c)) ++ groups_from m (suc p) (drop (p + 1) c)
      unfolding rest
      rest_is o =
          ap (rest_from m c p q o) first_is ∙ ap (λ d. rest_with m p a q o d ++ groups_from m (suc p) (drop (p + 1) c)) second_is

      -- the pair has no order left: on to the next second place
      pub rest_pair : (o : ℕ) → orders m p q a b o ≡ [] → rest m c p q o ≡ rest m c p (q + 1) 0
      unfolding rest
      rest_pair o e =
          rest_is o
          ∙ ap (λ z. (z ++ groups_with m p a (suc q) (drop (q + 1) c)) ++ groups_from m (suc p) (drop (p + 1) c)) e
          ∙ ap (λ z. z ++ groups_from m (suc p) (drop (p + 1) c)) (with_start p a (suc q) (drop (q + 1) c) ∙ ap (λ n. rest_with m p a n 0 (drop (q + 1) c)) (sym (add-one q)))
          ∙ sym (ap (rest_from m c p (q + 1) 0) first_is)

      -- it has none where it is at no distance of a group, or the order number is past the last
      pub rest_apart : (o : ℕ) → spans (distance m a b) ≡ false → rest m c p q o ≡ rest m c p (q + 1) 0
      rest_apart o t = rest_pair o (ap (λ t. cond t (orders_from p q a b o (factorial (distance m a b) - o)) []) t)

      pub rest_over : (o : ℕ) → factorial (distance m a b) ≤ o → rest m c p q o ≡ rest m c p (q + 1) 0
      unfolding orders_from
      rest_over o l = rest_pair o (go (spans (distance m a b)))
        where
          go : (t : Bool) → cond t (orders_from p q a b o (factorial (distance m a b) - o)) [] ≡ []
          go true = let z : factorial (distance m a b) - o ≡ 0 = omega arith in ap (orders_from p q a b o) z
          go false = refl

      -- the group of order number o is next
      pub rest_next : (o : ℕ) → spans (distance m a b) ≡ true → o < factorial (distance m a b) → rest m c p q o ≡ record { first = p; second = q; a = a; b = b; number = o } ∷ rest m c p q (o + 1)
      unfolding orders_from
      rest_next o t n =
          let k : factorial (distance m a b) - o ≡ suc (factorial (distance m a b) - (o + 1)) = omega arith in
          let g : Group P = record { first = p; second = q; a = a; b = b; number = o } in
          let e : orders m p q a b o ≡ g ∷ orders m p q a b (o + 1) = rw (t, k, add-one o) in
          rest_is o
          ∙ ap (λ z. (z ++ groups_with m p a (suc q) (drop (q + 1) c)) ++ groups_from m (suc p) (drop (p + 1) c)) e
          ∙ ap (λ z. g ∷ z) (sym (rest_is (o + 1)))
