-- Pseudo-Kronecker expansions of a table in its input order, and the one that is chosen.
use Rattle.std.specs.Prelude.{ℕ, zero, suc, ◌+◌, cond, List, [], ◌∷◌, ◌++◌, Some, None, Option, ◌==◌, slice_index}
use Rattle.cube.specs.Cubes.{with_form}
use Rattle.cube.specs.declared.cube.Cube.{Cube}
use Rattle.expansion.specs.Splits.{cheapest, low, high, sum, first_part, second_part, first_form, second_form}
use Rattle.expansion.specs.declared.split.Split.{Split}

-- an expansion of a table of 2 ^ k bytes: one of the three splits at every part, and an expansion of each part kept
abbrev pub Expansion : ℕ → Type 0
Expansion zero = Unit {0}
Expansion (suc k) = Split × Expansion k × Expansion k

-- how many products it has: its leaves of value 1
unfoldable pub cost : (k : ℕ) → Expansion k → List ℕ → ℕ
cost zero e t = cond (slice_index t 0 == 1) 1 0
cost (suc k) e t = cost k e.1 (first_part e.0 k t) + cost k e.2 (second_part e.0 k t)

-- its products, each a part of c, the first summand's first
unfoldable pub products : (k : ℕ) → Expansion k → List ℕ → Cube → List Cube
products zero e t c = cond (slice_index t 0 == 1) (c ∷ []) []
products (suc k) e t c =
    products k e.1 (first_part e.0 k t) (with_form c k (first_form e.0))
    ++ products k e.2 (second_part e.0 k t) (with_form c k (second_form e.0))

-- the split by what f0, f1 and f2 need, each by the expansion chosen for it
abbrev pub split_by : (k : ℕ) → (List ℕ → Expansion k) → List ℕ → Split
split_by k choice t =
    cheapest (cost k (choice (low k t)) (low k t)) (cost k (choice (high k t)) (high k t)) (cost k (choice (sum k t)) (sum k t))

-- the expansion that is chosen
unfoldable pub chosen : (k : ℕ) → List ℕ → Expansion k
chosen zero t = tt
chosen (suc k) t =
    let s = split_by k (chosen k) t in (s, chosen k (first_part s k t), chosen k (second_part s k t))

-- how a table of 2 ^ k bytes is split; one of one byte is not
abbrev pub split_at : ℕ → List ℕ → Option Split
split_at zero t = None
split_at (suc k) t = Some (split_by k (chosen k) t)

abbrev pub needed : ℕ → List ℕ → ℕ
needed k t = cost k (chosen k t) t

abbrev pub chosen_products : ℕ → List ℕ → Cube → List Cube
chosen_products k t c = products k (chosen k t) t c
