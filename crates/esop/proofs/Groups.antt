-- The list of groups has every group of the cover, nothing else, and at most 12 * n * (n - 1) entries.
use Rattle.std.proofs.Common.{◌≡◌, ℕ, zero, suc, ◌+◌, ◌-◌, ◌*◌, ◌<◌, ◌≤◌, Bool, true, false, cond, ◌⊎◌, List, [], ◌∷◌, ◌++◌, length, Some, refl, ap, inl, inr, arith, length-append}
use Rattle.std.specs.List.{slice_get}
use Rattle.std.proofs.lemmas.Bool.{leb-true, le-leb, and_parts, and_from, cases_eq}
use Rattle.esop.specs.Kind.{Meaning, distance}
use Rattle.esop.specs.Linking.{factorial, Group, IsGroup}
use Rattle.esop.specs.Running.{spans, orders_from, orders, groups_with, groups_from, groups}
use Rattle.esop.proofs.Arranging.{factorial_most}

-- the property holds of each element
abbrev pub Each : {A : Type 0} → (A → Type 0) → List A → Type 0
Each Q [] = Unit {0}
Each Q (x ∷ xs) = Q x × Each Q xs

-- a is an element
abbrev pub In : {A : Type 0} → A → List A → Type 0
In a [] = ⊥
In a (x ∷ xs) = (a ≡ x) ⊎ In a xs

each_append : {A : Type 0} (Q : A → Type 0) (s t : List A) → Each Q s → Each Q t → Each Q (s ++ t)
each_append Q [] t h k = k
each_append Q (x ∷ s) t h k = (h.0, each_append Q s t h.1 k)

in_left : {A : Type 0} (a : A) (s t : List A) → In a s → In a (s ++ t)
in_left a [] t h = absurd h
in_left a (x ∷ s) t (inl e) = inl e
in_left a (x ∷ s) t (inr h) = inr (in_left a s t h)

in_right : {A : Type 0} (a : A) (s t : List A) → In a t → In a (s ++ t)
in_right a [] t h = h
in_right a (x ∷ s) t h = inr (in_right a s t h)

abbrev group : {P : Type 0} → ℕ → ℕ → P → P → ℕ → Group P
group p q a b o = record { first = p; second = q; a = a; b = b; number = o }

pub spans_true : (k : ℕ) → spans k ≡ true → (2 ≤ k) × (k ≤ 4)
spans_true k e = let (l, u) = and_parts _ _ e in (leb-true _ _ l, leb-true _ _ u)

pub spans_from : (k : ℕ) → 2 ≤ k → k ≤ 4 → spans k ≡ true
spans_from k l u = and_from _ _ (le-leb 2 k l) (le-leb k 4 u)

module _ {P : Type 0} (m : Meaning P) where
  each_number : (Q : Group P → Type 0) (p q : ℕ) (a b : P) (o n : ℕ) → ((k : ℕ) → k < o + n → Q (group p q a b k)) → Each Q (orders_from p q a b o n)
  unfolding orders_from
  each_number Q p q a b o zero h = tt
  each_number Q p q a b o (suc n) h = (h o (omega arith), each_number Q p q a b (suc o) n (λ k l. h k (omega arith)))

  in_numbers : (p q : ℕ) (a b : P) (o n k : ℕ) → o ≤ k → k < o + n → In (group p q a b k) (orders_from p q a b o n)
  unfolding orders_from
  in_numbers p q a b o zero k l u = absurd (omega arith)
  in_numbers p q a b o (suc n) k l u =
      elim (cases_eq k o) [ inl e ↦ inl (ap (group p q a b) e) | inr d ↦ inr (in_numbers p q a b (suc o) n k (omega arith) (omega arith)) ]

  length_numbers : (p q : ℕ) (a b : P) (o n : ℕ) → length (orders_from p q a b o n) ≡ n
  unfolding orders_from
  length_numbers p q a b o zero = refl
  length_numbers p q a b o (suc n) = ap suc (length_numbers p q a b (suc o) n)

  -- the groups of one pair
  each_order : (Q : Group P → Type 0) (p q : ℕ) (a b : P) → (2 ≤ distance m a b → distance m a b ≤ 4 → (o : ℕ) → o < factorial (distance m a b) → Q (group p q a b o)) → Each Q (orders m p q a b 0)
  each_order Q p q a b h = go (spans (distance m a b)) refl
    where
      go : (t : Bool) → spans (distance m a b) ≡ t → Each Q (cond t (orders_from p q a b 0 (factorial (distance m a b) - 0)) [])
      go true e = let (l, u) = spans_true (distance m a b) e in each_number Q p q a b 0 (factorial (distance m a b) - 0) (λ o f. h l u o (omega arith))
      go false e = tt

  in_order : (p q : ℕ) (a b : P) (o : ℕ) → 2 ≤ distance m a b → distance m a b ≤ 4 → o < factorial (distance m a b) → In (group p q a b o) (orders m p q a b 0)
  in_order p q a b o l u n = rw (spans_from (distance m a b) l u) (in_numbers p q a b 0 (factorial (distance m a b) - 0) o (omega arith) (omega arith))

  orders_most : (p q : ℕ) (a b : P) → length (orders m p q a b 0) ≤ 24
  orders_most p q a b = go (spans (distance m a b)) refl
    where
      go : (t : Bool) → spans (distance m a b) ≡ t → length (cond t (orders_from p q a b 0 (factorial (distance m a b) - 0)) []) ≤ 24
      go true e =
          omega (arith, length_numbers p q a b 0 (factorial (distance m a b) - 0), factorial_most (distance m a b) (spans_true (distance m a b) e).1)
      go false e = omega arith

  with_most : (p : ℕ) (a : P) (q : ℕ) (c : List P) → length (groups_with m p a q c) ≤ 24 * length c
  unfolding groups_with
  with_most p a q [] = omega arith
  with_most p a q (b ∷ c) =
      omega (arith, length-append (orders m p q a b 0) (groups_with m p a (suc q) c), orders_most p q a b, with_most p a (suc q) c)

  from_most : (p : ℕ) (c : List P) → length (groups_from m p c) + 12 * length c ≤ 12 * (length c * length c)
  unfolding groups_from
  from_most p [] = omega arith
  from_most p (a ∷ c) =
      omega (arith, length-append (groups_with m p a (suc p) c) (groups_from m (suc p) c), with_most p a (suc p) c, from_most (suc p) c)

  pub groups_most : (c : List P) → length (groups m c) ≤ 12 * length c * (length c - 1)
  groups_most c = go (length c) refl
    where
      go : (n : ℕ) → length c ≡ n → length (groups m c) ≤ 12 * n * (n - 1)
      go zero e = let h = rw e at (from_most 0 c) in omega arith
      go (suc n) e = let h = rw e at (from_most 0 c) in let k : suc n - 1 ≡ n = omega arith in rw k (omega arith)

  -- the list c stands in w from place s on
  abbrev Stands : List P → ℕ → List P → Type 0
  Stands w s c = (k : ℕ) (x : P) → slice_get c k ≡ Some x → (n : ℕ) → n ≡ s + k → slice_get w n ≡ Some x

  each_with : (w : List P) (p : ℕ) (a : P) → slice_get w p ≡ Some a → (q : ℕ) (c : List P) → p < q → Stands w q c → Each (IsGroup m w) (groups_with m p a q c)
  unfolding groups_with
  each_with w p a e q [] l h = tt
  each_with w p a e q (b ∷ c) l h =
      each_append (IsGroup m w) (orders m p q a b 0) (groups_with m p a (suc q) c)
      (each_order (IsGroup m w) p q a b (λ two four o n. record { ascending = l; at_first = e; at_second = h 0 b refl q (omega arith); two = two; four = four; numbered = n }))
      (each_with w p a e (suc q) c (omega arith) (λ k x f n g. h (suc k) x f n (omega arith)))

  each_from : (w : List P) (s : ℕ) (c : List P) → Stands w s c → Each (IsGroup m w) (groups_from m s c)
  unfolding groups_from
  each_from w s [] h = tt
  each_from w s (a ∷ c) h =
      each_append (IsGroup m w) (groups_with m s a (suc s) c) (groups_from m (suc s) c)
      (each_with w s a (h 0 a refl s (omega arith)) (suc s) c (omega arith) (λ k x f n g. h (suc k) x f n (omega arith)))
      (each_from w (suc s) c (λ k x f n g. h (suc k) x f n (omega arith)))

  pub groups_are : (c : List P) → Each (IsGroup m c) (groups m c)
  groups_are c = each_from c 0 c (λ k x f n g. let z : n ≡ k = omega arith in rw z f)

  in_with : (p : ℕ) (a : P) (q : ℕ) (c : List P) (j : ℕ) (b : P) (o n : ℕ) → slice_get c j ≡ Some b → n ≡ q + j → 2 ≤ distance m a b → distance m a b ≤ 4 → o < factorial (distance m a b) → In (group p n a b o) (groups_with m p a q c)
  unfolding groups_with
  in_with p a q [] j b o n e i l u f = absurd (let z : ◌≡◌ {A = ℕ} 0 1 = cc in omega arith)
  in_with p a q (x ∷ c) zero b o n e i l u f =
      let z : x ≡ b = cc in
      let k : n ≡ q = omega arith in
      in_left _ (orders m p q a x 0) _ (rw (z, k) (in_order p q a b o l u f))
  in_with p a q (x ∷ c) (suc j) b o n e i l u f = in_right _ (orders m p q a x 0) _ (in_with p a (suc q) c j b o n e (omega arith) l u f)

  in_from : (s : ℕ) (c : List P) (i j : ℕ) (a b : P) (o p q : ℕ) → i < j → slice_get c i ≡ Some a → slice_get c j ≡ Some b → p ≡ s + i → q ≡ s + j → 2 ≤ distance m a b → distance m a b ≤ 4 → o < factorial (distance m a b) → In (group p q a b o) (groups_from m s c)
  unfolding groups_from
  in_from s [] i j a b o p q l ea eb pi qj two four n = absurd (let z : ◌≡◌ {A = ℕ} 0 1 = cc in omega arith)
  in_from s (x ∷ c) zero zero a b o p q l ea eb pi qj two four n = absurd (omega arith)
  in_from s (x ∷ c) zero (suc j) a b o p q l ea eb pi qj two four n =
      let z : x ≡ a = cc in
      let k : p ≡ s = omega arith in
      in_left _ (groups_with m s x (suc s) c) _ (rw (z, k) (in_with s a (suc s) c j b o q eb (omega arith) two four n))
  in_from s (x ∷ c) (suc i) zero a b o p q l ea eb pi qj two four n = absurd (omega arith)
  in_from s (x ∷ c) (suc i) (suc j) a b o p q l ea eb pi qj two four n =
      in_right _ (groups_with m s x (suc s) c) _ (in_from (suc s) c i j a b o p q (omega arith) ea eb (omega arith) (omega arith) two four n)

  pub groups_all : (c : List P) (g : Group P) → IsGroup m c g → In g (groups m c)
  groups_all c g h =
      in_from 0 c g.first g.second g.a g.b g.number g.first g.second h.ascending h.at_first h.at_second (omega arith) (omega arith) h.two h.four h.numbered
