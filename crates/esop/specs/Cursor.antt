-- The groups of a cover that are left to try at a pair of places and an order number.
use Rattle.std.specs.Prelude.{ℕ, suc, List, [], ◌∷◌, ◌++◌, drop}
use Rattle.esop.specs.Kind.{Meaning}
use Rattle.esop.specs.Linking.{Group}
use Rattle.esop.specs.Running.{orders, groups_with, groups_from}

-- with a at place p, and the products of the list from place q on
abbrev pub rest_with : {P : Type 0} → Meaning P → ℕ → P → ℕ → ℕ → List P → List (Group P)
rest_with m p a q o [] = []
rest_with m p a q o (b ∷ d) = orders m p q a b o ++ groups_with m p a (suc q) d

-- with the products of the list from place p on
abbrev pub rest_from : {P : Type 0} → Meaning P → List P → ℕ → ℕ → ℕ → List P → List (Group P)
rest_from m c p q o [] = []
rest_from m c p q o (a ∷ d) = rest_with m p a q o (drop q c) ++ groups_from m (suc p) d

-- the groups of the cover c from places p and q and order number o on
unfoldable pub rest : {P : Type 0} → Meaning P → List P → ℕ → ℕ → ℕ → List (Group P)
rest m c p q o = rest_from m c p q o (drop p c)
