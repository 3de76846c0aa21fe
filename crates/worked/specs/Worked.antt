-- The worked examples.
use Rattle.std.specs.Prelude.{◌≡◌, ℕ, List, [], ◌∷◌, length, Ok}
use Rattle.esop.specs.Criterion.{reduce, refine}
use Rattle.esop.specs.Entering.{total_weight, entered, entered_all}
use Rattle.esop.specs.Linking.{arranged, link}
use Rattle.esop.specs.Running.{Outcome, run, kept_of}
use Rattle.esop.specs.History.{Held, accept, refuse, linked}
use Rattle.cube.specs.Positions.{cubes}
use Rattle.cube.specs.declared.cube.Cube.{Cube}
use Rattle.block.specs.Products.{blocks}
use Rattle.block.specs.Sizes.{Fewest, size_of}
use Rattle.expansion.specs.Answers.{expansion_of}
use Rattle.worked.specs.Rows.{row, cube, block}
use Rattle.esop.specs.declared.ending.End.{End}
use Rattle.esop.specs.declared.ending.End.TheVariants.{Spent, Finished}

-- two products at distance 2
abbrev pub pair : List Cube
pair = cube "11" ∷ cube "00" ∷ []

-- the products of the pair's link with order number 0
abbrev pub pair_linked : List Cube
pair_linked = cube "-1" ∷ cube "0-" ∷ []

-- three products, of which a link of the first two makes one that joins with the third
abbrev pub three : List Cube
three = cube "11-" ∷ cube "00-" ∷ cube "-11" ∷ []

-- a cover, and what the free places after it hold
abbrev pub holding : List Cube → List Cube → Held Cube
holding c free = record { used = c; free = free }

-- how a run ended, how many groups it tried, how many links it kept, and the cover that it left
pub record Came (r : Outcome Cube) (e : End) (tried kept : ℕ) (c : List Cube) : Type 0 where
  pub ending : r.ending ≡ e
  pub trials : length r.trials ≡ tried
  pub links : length (kept_of r.trials) ≡ kept
  pub cover : r.cover ≡ c

pub record WorkedExamples : Type 0 where
  -- a product that is entered twice is gone
  pub cancelled : entered cubes (cube "11") (cube "11" ∷ []) ≡ []
  -- 0- joins with 00 to 01, and that with 11 to -1
  pub merged : entered cubes (cube "0-") pair ≡ cube "-1" ∷ []
  -- sets of outputs join to the outputs in exactly one of them
  pub outputs_joined : cubes.joined (row "1-" "10") 32 (row "1-" "11") ≡ row "1-" "01"
  -- the link that goes over input 0 first
  pub first_order : link cubes (cube "11") (cube "00") 0 ≡ pair_linked
  -- the link that goes over input 1 first
  pub second_order : link cubes (cube "11") (cube "00") 1 ≡ cube "1-" ∷ cube "-0" ∷ []
  -- order 3 of any three positions: the second, the third, the first
  pub order_three : (a b c : ℕ) → arranged 3 3 (a ∷ b ∷ c ∷ []) ≡ b ∷ c ∷ a ∷ []
  -- at distance 2 Reduce asks for fewer products, and order 0 gives two
  pub reduce_first : (free : List Cube) → linked cubes reduce (holding pair free) 0 1 0 4 ≡ refuse 7 (holding pair free)
  -- so does order 1
  pub reduce_second : (free : List Cube) → linked cubes reduce (holding pair free) 0 1 1 4 ≡ refuse 7 (holding pair free)
  -- Refine keeps order 0, since the weight falls from 4 to 2
  pub refine_first : ((free : List Cube) → linked cubes refine (holding pair free) 0 1 0 4 ≡ accept (holding pair_linked free)) × (total_weight cubes pair ≡ 4) × (total_weight cubes pair_linked ≡ 2)
  -- no two of the three meet as they are entered, so that they are a cover
  pub three_entered : entered_all cubes three [] ≡ three
  -- a kept link, and the six orders of the two products that it leaves, take seven of the budget
  pub budget_seven : Came (run cubes reduce 7 three) Finished 7 1 (cube "-10" ∷ cube "0--" ∷ [])
  -- with six the last order is left to try
  pub budget_six : Came (run cubes reduce 6 three) Spent 6 1 (cube "-10" ∷ cube "0--" ∷ [])
  -- the table of the exclusive or of two inputs, for output 0
  pub either_expanded : expansion_of (0 ∷ 1 ∷ 1 ∷ 0 ∷ []) 0 960 ≡ Ok (cube "0-" ∷ cube "-0" ∷ [])
  -- the table that has a 1 only where both inputs are 1
  pub both_expanded : expansion_of (0 ∷ 0 ∷ 0 ∷ 1 ∷ []) 0 960 ≡ Ok (cube "11" ∷ [])
  -- bytes join by exclusive or; the joined byte has size 2, and is the exclusive or of no fewer cubes
  pub bytes_joined : (blocks.joined (block 170) 0 (block 204) ≡ block 102) × (size_of 102 ≡ 2) × Fewest 102 2
