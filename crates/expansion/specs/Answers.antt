-- What expanding a table answers, and what it leaves in table and list.
use Rattle.std.specs.Prelude.{◌≡◌, ℕ, ◌+◌, ◌*◌, ◌%◌, ◌^◌, ◌<◌, ◌≤◌, cond, List, ◌++◌, length, take, drop, IfOk, Some, None, Ok, Err, Option, Result, nat_le, nat_lt, slice_index}
use Rattle.cube.specs.Cubes.{words_of}
use Rattle.cube.specs.Cubes as cubes
use Rattle.cube.specs.Covering.{covering}
use Rattle.cube.specs.declared.cube.Cube.{Cube}
use Rattle.expansion.specs.Tables.{binary, inputs_of}
use Rattle.expansion.specs.Expansions.{Expansion, products, needed, chosen_products}
use Rattle.expansion.specs.declared.refusal.ExpandRefusal.{ExpandRefusal}
use Rattle.expansion.specs.declared.refusal.ExpandRefusal.TheVariants.{Length, Byte, Output, Room}

-- the product of no input that drives output u alone
abbrev pub start_of : ℕ → Cube
start_of u = cubes.made (words_of 4294967295 4294967295 (2 ^ u))

-- the questions in order, and the products, for a table of so many inputs
abbrev pub asked : Option ℕ → List ℕ → ℕ → ℕ → Result (List Cube) ExpandRefusal
asked None t u room = Err Length
asked (Some k) t u room =
    cond (binary t)
    (cond (nat_lt u 32) (cond (nat_le (needed k t) room) (Ok (chosen_products k t (start_of u))) (Err Room)) (Err Output))
    (Err Byte)

-- the products that expanding t for output u gives to a list of so many places, or the refusal
abbrev pub expansion_of : List ℕ → ℕ → ℕ → Result (List Cube) ExpandRefusal
expansion_of t u room = asked (inputs_of (length t)) t u room

abbrev pub counted : Result (List Cube) ExpandRefusal → Result ℕ ExpandRefusal
counted (Ok ps) = Ok (length ps)
counted (Err e) = Err e

-- a list after the products went to its start
abbrev pub filled : Result (List Cube) ExpandRefusal → List Cube → List Cube
filled (Ok ps) l = ps ++ drop (length ps) l
filled (Err e) l = l

-- t is the table, u the output, l the list and r the answer; t' and l' are what table and list hold afterwards
pub record Expanded (t : List ℕ) (u : ℕ) (l : List Cube) (r : Result ℕ ExpandRefusal) (t' : List ℕ) (l' : List Cube) : Type 0 where
  pub answer : r ≡ counted (expansion_of t u (length l))
  pub table : t' ≡ t
  pub list : l' ≡ filled (expansion_of t u (length l)) l
  -- no expansion of the table has fewer products
  pub fewest : IfOk r (λ n. (k : ℕ) (e : Expansion k) → length t ≡ 2 ^ k → n ≤ length (products k e t (start_of u)))
  -- a pattern is covered at the output by an odd number of the products exactly when its byte is 1
  pub meaning : IfOk r (λ n. (p : ℕ) → p < length t → covering (p + 2 ^ 32 * u) (take n l') % 2 ≡ slice_index t p)
