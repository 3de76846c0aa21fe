-- What `seek` answers.
use Rattle.std.proofs.Common.{◌≡◌, ℕ, ◌+◌, ◌<◌, ◌≤◌, Bool, true, false, cond, leb, List, [], ◌∷◌, length, get_or, Some, None, Option, refl, subst, arith}
use Rattle.std.proofs.lemmas.Bool.{leb-true, leb-false}
use Rattle.esop.specs.Kind.{Meaning, distance}
use Rattle.esop.specs.Entering.{further, seek}
use Rattle.esop.proofs.Apart.{Far}

module _ {P : Type 0} (m : Meaning P) where
  pub seek_nil : (p : P) → seek m p [] ≡ None
  unfolding seek
  seek_nil p = refl

  pub seek_cons : (p x : P) (c : List P) → seek m p (x ∷ c) ≡ cond (leb (distance m p x) 1) (Some 0) (further (seek m p c))
  unfolding seek
  seek_cons p x c = refl

  -- a place of the list, whose product is at distance 0 or 1
  pub record Near (p : P) (c : List P) (i : ℕ) : Type 0 where
    pub within : i < length c
    pub near : distance m p (get_or c i p) ≤ 1

  -- what the answer says
  abbrev pub Seen : P → List P → Option ℕ → Type 0
  Seen p c None = Far m p c
  Seen p c (Some i) = Near p c i

  seen_cons : (p x : P) (c : List P) (t : Bool) (o : Option ℕ) → leb (distance m p x) 1 ≡ t → Seen p c o → Seen p (x ∷ c) (cond t (Some 0) (further o))
  seen_cons p x c true o e s = record { within = omega arith; near = omega (arith, leb-true _ _ e) }
  seen_cons p x c false None e s = (omega (arith, leb-false _ _ e), s)
  seen_cons p x c false (Some i) e s = record { within = omega arith; near = s.near }

  pub seen : (p : P) (c : List P) → Seen p c (seek m p c)
  unfolding seek
  seen p [] = tt
  seen p (x ∷ c) = seen_cons p x c (leb (distance m p x) 1) (seek m p c) refl (seen p c)

  -- what was found is a place of the list, and near
  pub seek_found : (p : P) (c : List P) (i : ℕ) → seek m p c ≡ Some i → Near p c i
  seek_found p c i e = subst (Seen p c) e (seen p c)
