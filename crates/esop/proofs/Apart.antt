-- Covers any two of whose products are at distance 2 or more, by recursion on the list.
use Rattle.std.proofs.Common.{◌≡◌, ℕ, zero, suc, ◌≤◌, List, [], ◌∷◌, ◌++◌, Some, refl, arith}
use Rattle.std.specs.List.{slice_get, remove}
use Rattle.esop.specs.Kind.{Meaning, distance}
use Rattle.esop.specs.Entering.{Apart}
use Rattle.esop.proofs.Positions.{distance_sym}

-- a is at distance 2 or more from each product of the list
abbrev pub Far : {P : Type 0} → Meaning P → P → List P → Type 0
Far m a [] = Unit {0}
Far m a (x ∷ c) = (2 ≤ distance m a x) × Far m a c

abbrev pub AllApart : {P : Type 0} → Meaning P → List P → Type 0
AllApart m [] = Unit {0}
AllApart m (x ∷ c) = Far m x c × AllApart m c

module _ {P : Type 0} (m : Meaning P) where
  far_removed : (a : P) (c : List P) (i : ℕ) → Far m a c → Far m a (remove c i)
  far_removed a [] zero h = tt
  far_removed a [] (suc i) h = tt
  far_removed a (x ∷ c) zero h = h.1
  far_removed a (x ∷ c) (suc i) h = (h.0, far_removed a c i h.1)

  pub all_apart_removed : (c : List P) (i : ℕ) → AllApart m c → AllApart m (remove c i)
  all_apart_removed [] zero h = tt
  all_apart_removed [] (suc i) h = tt
  all_apart_removed (x ∷ c) zero h = h.1
  all_apart_removed (x ∷ c) (suc i) h = (far_removed x c i h.0, all_apart_removed c i h.1)

  far_push : (a p : P) (c : List P) → Far m a c → 2 ≤ distance m a p → Far m a (c ++ p ∷ [])
  far_push a p [] h k = (k, tt)
  far_push a p (x ∷ c) h k = (h.0, far_push a p c h.1 k)

  pub all_apart_push : (p : P) (c : List P) → Far m p c → AllApart m c → AllApart m (c ++ p ∷ [])
  all_apart_push p [] f h = (tt, tt)
  all_apart_push p (x ∷ c) f h = (far_push x p c h.0 (rw (distance_sym m x p) f.0), all_apart_push p c f.1 h.1)

  far_at : (a : P) (c : List P) (j : ℕ) (b : P) → Far m a c → slice_get c j ≡ Some b → 2 ≤ distance m a b
  far_at a [] j b f e = absurd (let z : ◌≡◌ {A = ℕ} 0 1 = cc in omega arith)
  far_at a (x ∷ c) zero b f e = let z : x ≡ b = cc in rw (← z) f.0
  far_at a (x ∷ c) (suc j) b f e = far_at a c j b f.1 e

  pub apart_from : (c : List P) → AllApart m c → Apart m c
  apart_from [] h i j a b l ei ej = absurd (let z : ◌≡◌ {A = ℕ} 0 1 = cc in omega arith)
  apart_from (x ∷ c) h zero zero a b l ei ej = absurd (omega arith)
  apart_from (x ∷ c) h zero (suc j) a b l ei ej = let z : x ≡ a = cc in rw (← z) (far_at x c j b h.0 ej)
  apart_from (x ∷ c) h (suc i) zero a b l ei ej = absurd (omega arith)
  apart_from (x ∷ c) h (suc i) (suc j) a b l ei ej = apart_from c h.1 i j a b (omega arith) ei ej

  far_from : (a : P) (c : List P) → ((j : ℕ) (b : P) → slice_get c j ≡ Some b → 2 ≤ distance m a b) → Far m a c
  far_from a [] h = tt
  far_from a (x ∷ c) h = (h 0 x refl, far_from a c (λ j b e. h (suc j) b e))

  pub apart_to : (c : List P) → Apart m c → AllApart m c
  apart_to [] h = tt
  apart_to (x ∷ c) h =
      (far_from x c (λ j b e. h 0 (suc j) x b (omega arith) refl e), apart_to c (λ i j a b l ei ej. h (suc i) (suc j) a b (omega arith) ei ej))

  pub apart_removed : (c : List P) (i : ℕ) → Apart m c → Apart m (remove c i)
  apart_removed c i h = apart_from (remove c i) (all_apart_removed c i (apart_to c h))
