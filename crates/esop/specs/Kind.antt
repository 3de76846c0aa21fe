-- What a kind of product means, and the laws that it keeps.
use Rattle.std.specs.Prelude.{◌≡◌, ℕ, zero, suc, ◌<◌, ◌≤◌, Bool, true, false, cond, not, ◌&&◌, List, [], ◌∷◌, ◌++◌, length, Option, ◌==◌, nat_lt}
use Rattle.std.specs.List.{slice_get}

-- A product has a value at each of a fixed number of positions, and covers some of the points. Values and points are whole numbers.
pub record Meaning (P : Type 0) : Type 0 where
  -- the number of positions
  pub width : ℕ
  -- value a i: the value of a at position i
  pub value : P → ℕ → ℕ
  -- mixed i u v: the value that joins two different values u and v at position i
  pub mixed : ℕ → ℕ → ℕ → ℕ
  -- taken a i b: a with its position i replaced by that of b
  pub taken : P → ℕ → P → P
  -- joined a i b: a with its position i replaced by the joined value of a and b there
  pub joined : P → ℕ → P → P
  -- what the product costs besides its place in a cover
  pub weight : P → ℕ
  -- covers a x: the product a covers the point x
  pub covers : P → ℕ → Bool

-- exclusive or: one of the two, and not the other
abbrev pub either : Bool → Bool → Bool
either true b = not b
either false b = b

-- a and b have different values at position i; past the last position nothing differs
abbrev pub differs : {P : Type 0} → Meaning P → P → P → ℕ → Bool
differs m a b i = nat_lt i m.width && not (m.value a i == m.value b i)

-- the positions below n at which a and b differ, ascending
unfoldable pub differing_below : {P : Type 0} → Meaning P → P → P → ℕ → List ℕ
differing_below m a b zero = []
differing_below m a b (suc n) = differing_below m a b n ++ cond (differs m a b n) (n ∷ []) []

-- the positions at which a and b differ, ascending
abbrev pub differing : {P : Type 0} → Meaning P → P → P → List ℕ
differing m a b = differing_below m a b m.width

-- the number of positions at which a and b differ
abbrev pub distance : {P : Type 0} → Meaning P → P → P → ℕ
distance m a b = length (differing m a b)

-- the n-th position, counted from 0, at which a and b differ
abbrev pub nth_difference : {P : Type 0} → Meaning P → P → P → ℕ → Option ℕ
nth_difference m a b n = slice_get (differing m a b) n

-- How a take and a join change the values. A link walks from one product to another by takes, and joins each product on the way with the next:
-- that those two differ in one known position, and in no other, follows from what a take does to each value.
pub record Positions {P : Type 0} (m : Meaning P) : Type 0 where
  -- there is a position, and code that looks at the positions 0 to 32 has seen them all
  pub width_bounds : (1 ≤ m.width) × (m.width ≤ 33)
  -- past the last position there is nothing to take
  pub take_past : (a b : P) (i : ℕ) → m.width ≤ i → m.taken a i b ≡ a
  -- a take at position i replaces the value there, and leaves every other
  pub take_value : (a b : P) (i j : ℕ) → j < m.width → m.value (m.taken a i b) j ≡ cond (i == j) (m.value b j) (m.value a j)
  -- where the two do not differ, as past the last position, there is nothing to join
  pub join_none : (a b : P) (i : ℕ) → differs m a b i ≡ false → m.joined a i b ≡ a
  -- a join at position i puts the joined value there, and leaves every other
  pub join_value : (a b : P) (i j : ℕ) → differs m a b i ≡ true → j < m.width → m.value (m.joined a i b) j ≡ cond (i == j) (m.mixed i (m.value a i) (m.value b i)) (m.value a j)

-- What each kind of product owes.
pub record Laws {P : Type 0} (m : Meaning P) : Type 0 where
  pub positions : Positions m
  -- so that the weights of a whole cover add up within 64 bits
  pub weight_bound : (a : P) → m.weight a ≤ 6561
  -- products that differ nowhere cover the same points: the two cancel in an exclusive-or sum
  pub same : (a b : P) → ((i : ℕ) → differs m a b i ≡ false) → (x : ℕ) → m.covers a x ≡ m.covers b x
  -- where a and b differ at position i only, the join covers a point exactly when one of them covers it and the other does not:
  -- it stands for both in an exclusive-or sum
  pub join_covers : (a b : P) (i : ℕ) → ((j : ℕ) → differs m a b j ≡ (i == j)) → (x : ℕ) → m.covers (m.joined a i b) x ≡ either (m.covers a x) (m.covers b x)
