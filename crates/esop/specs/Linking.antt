-- Links: two products at distance 2 to 4 give way to the joins along a way from one to the other.
use Rattle.std.specs.Prelude.{◌≡◌, ℕ, zero, suc, ◌+◌, ◌*◌, ◌/◌, ◌%◌, ◌<◌, ◌≤◌, Bool, true, ◌⊎◌, List, [], ◌∷◌, length, Some, ◌==◌, slice_index}
use Rattle.std.specs.List.{slice_get, remove}
use Rattle.esop.specs.Kind.{Meaning, differing, distance}
use Rattle.esop.specs.Criterion.{Test}
use Rattle.esop.specs.Entering.{bit, total_weight, entered_all}

-- in how many orders k positions can stand
abbrev pub factorial : ℕ → ℕ
factorial zero = 1
factorial (suc n) = suc n * factorial n

-- the arrangement with order number o, from 0 on in dictionary order, of the k numbers of ds
unfoldable pub arranged : ℕ → ℕ → List ℕ → List ℕ
arranged zero o ds = []
arranged (suc n) o ds = slice_index ds (o / factorial n) ∷ arranged n (o % factorial n) (remove ds (o / factorial n))

-- how often the number j stands in the list
abbrev pub occurs : ℕ → List ℕ → ℕ
occurs j [] = 0
occurs j (d ∷ ds) = bit (d == j) + occurs j ds

-- one list is before the other in dictionary order: at the first place where they differ it has the smaller number
abbrev pub Before : List ℕ → List ℕ → Type 0
Before [] [] = ⊥
Before [] (y ∷ ys) = ⊥
Before (x ∷ xs) [] = ⊥
Before (x ∷ xs) (y ∷ ys) = (x < y) ⊎ ((x ≡ y) × Before xs ys)

-- each number is greater than those before it
abbrev pub Ascending : List ℕ → Type 0
Ascending ds = (i j : ℕ) → i < j → j < length ds → slice_index ds i < slice_index ds j

-- the positions at which a and b differ, in the order with number o
abbrev pub order : {P : Type 0} → Meaning P → P → P → ℕ → List ℕ
order m a b o = arranged (distance m a b) o (differing m a b)

-- On the way from t to b the positions of ds are taken from b one by one. The joins of each product on the way with the next, at the position taken.
unfoldable pub path : {P : Type 0} → Meaning P → P → P → List ℕ → List P
path m t b [] = []
path m t b (d ∷ ds) = m.joined t d (m.taken t d b) ∷ path m (m.taken t d b) b ds

-- the products of the link of a and b with order number o
abbrev pub link : {P : Type 0} → Meaning P → P → P → ℕ → List P
link m a b o = path m a b (order m a b o)

-- two places, the products there, and an order number
pub record Group (P : Type 0) : Type 0 where
  pub first : ℕ
  pub second : ℕ
  pub a : P
  pub b : P
  pub number : ℕ

-- a group of the cover c
pub record IsGroup {P : Type 0} (m : Meaning P) (c : List P) (g : Group P) : Type 0 where
  pub ascending : g.first < g.second
  pub at_first : slice_get c g.first ≡ Some g.a
  pub at_second : slice_get c g.second ≡ Some g.b
  pub two : 2 ≤ distance m g.a g.b
  pub four : distance m g.a g.b ≤ 4
  pub numbered : g.number < factorial (distance m g.a g.b)

-- the distance of a group's products
abbrev pub span : {P : Type 0} → Meaning P → Group P → ℕ
span m g = distance m g.a g.b

-- the cover without the group's two products
abbrev pub without : {P : Type 0} → List P → Group P → List P
without c g = remove (remove c g.second) g.first

-- the cover that the group's link makes: without the two products, and with those of the link entered in turn
unfoldable pub result : {P : Type 0} → Meaning P → List P → Group P → List P
result m c g = entered_all m (link m g.a g.b g.number) (without c g)

-- what a criterion says of the group
abbrev pub says : {P : Type 0} → Meaning P → Test → List P → Group P → Bool
says m test c g = test (span m g) (length c) (total_weight m c) (length (result m c g)) (total_weight m (result m c g))

-- the links of the groups, kept one after the other, lead from c to d: each is of a group of the cover that it met, and has the criterion's yes
abbrev pub Links : {P : Type 0} → Meaning P → Test → List P → List (Group P) → List P → Type 0
Links m test c [] d = c ≡ d
Links m test c (g ∷ gs) d = IsGroup m c g × (says m test c g ≡ true) × Links m test (result m c g) gs d
