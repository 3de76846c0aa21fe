-- Entering products into a cover. A cover is a list of products, by place.
use Rattle.std.specs.Prelude.{◌≡◌, ℕ, zero, suc, ◌+◌, ◌-◌, ◌<◌, ◌≤◌, Bool, cond, List, [], ◌∷◌, ◌++◌, length, drop, Some, None, Option, nat_le, slice_index_or}
use Rattle.std.specs.List.{slice_get, remove}
use Rattle.esop.specs.Kind.{Meaning, differing, distance}

-- 1 for a yes, 0 for a no
abbrev pub bit : Bool → ℕ
bit b = cond b 1 0

-- how many products of the list cover the point x
abbrev pub covering : {P : Type 0} → Meaning P → ℕ → List P → ℕ
covering m x [] = 0
covering m x (p ∷ c) = bit (m.covers p x) + covering m x c

-- what the products of the list weigh together
abbrev pub total_weight : {P : Type 0} → Meaning P → List P → ℕ
total_weight m [] = 0
total_weight m (p ∷ c) = m.weight p + total_weight m c

-- any two products are at distance 2 or more
abbrev pub Apart : {P : Type 0} → Meaning P → List P → Type 0
Apart {P} m c = (i j : ℕ) (a b : P) → i < j → slice_get c i ≡ Some a → slice_get c j ≡ Some b → 2 ≤ distance m a b

-- one place further on
abbrev pub further : Option ℕ → Option ℕ
further None = None
further (Some i) = Some (suc i)

-- the place of the first product at distance 0 or 1 from p
unfoldable pub seek : {P : Type 0} → Meaning P → P → List P → Option ℕ
seek m p [] = None
seek m p (x ∷ c) = cond (nat_le (distance m p x) 1) (Some 0) (further (seek m p c))

-- p meets the product q at place i, from which it differs at the positions ds: at none, and q is removed, or at one, and q is removed
-- while p becomes the join of the two, with which all begins again
abbrev pub met : {P : Type 0} → Meaning P → (P → List P → List P) → P → List P → ℕ → P → List ℕ → List P
met m again p c i q [] = remove c i
met m again p c i q (d ∷ ds) = again (m.joined p d q) (remove c i)

-- p comes to the place that was sought for it; where there is none, it goes to the end
abbrev pub arrived : {P : Type 0} → Meaning P → (P → List P → List P) → P → List P → Option ℕ → List P
arrived m again p c None = c ++ p ∷ []
arrived m again p c (Some i) = met m again p c i (slice_index_or c i p) (differing m p (slice_index_or c i p))

-- entering within n rounds
unfoldable pub entered_within : {P : Type 0} → Meaning P → ℕ → P → List P → List P
entered_within m zero p c = c ++ p ∷ []
entered_within m (suc n) p c = arrived m (entered_within m n) p c (seek m p c)

-- the cover after p is entered. Each round that is not the last removes a product, so that no more are wanted than there are products:
-- `entered_is` of proofs/ says that entered m p c is arrived m (entered m) p c (seek m p c).
unfoldable pub entered : {P : Type 0} → Meaning P → P → List P → List P
entered m p c = entered_within m (length c) p c

-- the cover after the products are entered in turn
unfoldable pub entered_all : {P : Type 0} → Meaning P → List P → List P → List P
entered_all m [] c = c
entered_all m (p ∷ ps) c = entered_all m ps (entered m p c)

-- What the free places hold. They follow those of the cover c, and hold the products of the list free.

-- a removal moves the products after it up by one, and leaves the last place of the cover as it was: the first free one
abbrev pub freed : {P : Type 0} → List P → List P → List P
freed c free = drop (length c - 1) c ++ free

abbrev pub spared_met : {P : Type 0} → Meaning P → (P → List P → List P → List P) → P → List P → List P → ℕ → P → List ℕ → List P
spared_met m again p c free i q [] = freed c free
spared_met m again p c free i q (d ∷ ds) = again (m.joined p d q) (remove c i) (freed c free)

abbrev pub spared_arrived : {P : Type 0} → Meaning P → (P → List P → List P → List P) → P → List P → List P → Option ℕ → List P
spared_arrived m again p c free None = drop 1 free
spared_arrived m again p c free (Some i) = spared_met m again p c free i (slice_index_or c i p) (differing m p (slice_index_or c i p))

unfoldable pub spared_within : {P : Type 0} → Meaning P → ℕ → P → List P → List P → List P
spared_within m zero p c free = drop 1 free
spared_within m (suc n) p c free = spared_arrived m (spared_within m n) p c free (seek m p c)

-- what the free places hold after p is entered. `spared_is` of proofs/ says that spared m p c free is
-- spared_arrived m (spared m) p c free (seek m p c).
unfoldable pub spared : {P : Type 0} → Meaning P → P → List P → List P → List P
spared m p c free = spared_within m (length c) p c free

-- what the free places hold after the products are entered in turn
unfoldable pub spared_all : {P : Type 0} → Meaning P → List P → List P → List P → List P
spared_all m [] c free = free
spared_all m (p ∷ ps) c free = spared_all m ps (entered m p c) (spared m p c free)
