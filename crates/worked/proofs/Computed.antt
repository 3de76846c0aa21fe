-- The worked examples, each by computing the definitions.
use Rattle.std.proofs.Common.{◌≡◌, ℕ, List, [], ◌∷◌, Ok, refl, lit<}
use Rattle.esop.specs.Kind.{differing_below}
use Rattle.esop.specs.Criterion.{reduce, refine}
use Rattle.esop.specs.Entering.{total_weight, seek, entered_within, entered, entered_all}
use Rattle.esop.specs.Linking.{arranged, path, link, result}
use Rattle.esop.specs.Running.{orders_from, groups_with, groups_from, run_from, run}
use Rattle.esop.specs.History.{accept, refuse, judged, linked}
use Rattle.cube.specs.Cubes.{made}
use Rattle.cube.specs.Positions.{count, cubes}
use Rattle.cube.specs.declared.cube.Cube.{Cube}
use Rattle.block.specs.Blocks as blocks
use Rattle.block.specs.Products.{blocks}
use Rattle.block.specs.Sizes.{Fewest, size_of}
use Rattle.block.specs.SizeLaws.{fewest}
use Rattle.expansion.specs.Answers.{expansion_of}
use Rattle.expansion.specs.Expansions.{cost, products, chosen}
use Rattle.expansion.specs.Tables.{exponent_below}
use Rattle.worked.specs.Rows.{row, cube, block}
use Rattle.worked.specs.Worked.{pair, pair_linked, three, holding, Came}
use Rattle.esop.specs.declared.ending.End.TheVariants.{Spent, Finished}

pub cancelled : entered cubes (cube "11") (cube "11" ∷ []) ≡ []
unfolding made differing_below seek entered_within entered
cancelled = refl

pub merged : entered cubes (cube "0-") pair ≡ cube "-1" ∷ []
unfolding made differing_below seek entered_within entered
merged = refl

pub outputs_joined : cubes.joined (row "1-" "10") 32 (row "1-" "11") ≡ row "1-" "01"
unfolding made
outputs_joined = refl

pub first_order : link cubes (cube "11") (cube "00") 0 ≡ pair_linked
unfolding made differing_below arranged path
first_order = refl

pub second_order : link cubes (cube "11") (cube "00") 1 ≡ cube "1-" ∷ cube "-0" ∷ []
unfolding made differing_below arranged path
second_order = refl

pub order_three : (a b c : ℕ) → arranged 3 3 (a ∷ b ∷ c ∷ []) ≡ b ∷ c ∷ a ∷ []
unfolding arranged
order_three a b c = refl

pub reduce_first : (free : List Cube) → linked cubes reduce (holding pair free) 0 1 0 4 ≡ refuse 7 (holding pair free)
unfolding made count differing_below seek entered_within entered entered_all arranged path result judged linked
reduce_first free = refl

pub reduce_second : (free : List Cube) → linked cubes reduce (holding pair free) 0 1 1 4 ≡ refuse 7 (holding pair free)
unfolding made count differing_below seek entered_within entered entered_all arranged path result judged linked
reduce_second free = refl

pub refine_first : (free : List Cube) → linked cubes refine (holding pair free) 0 1 0 4 ≡ accept (holding pair_linked free)
unfolding made count differing_below seek entered_within entered entered_all arranged path result judged linked
refine_first free = refl

pub weights : (total_weight cubes pair ≡ 4) × (total_weight cubes pair_linked ≡ 2)
unfolding made count
weights = (refl, refl)

pub three_entered : entered_all cubes three [] ≡ three
unfolding made differing_below seek entered_within entered entered_all
three_entered = refl

pub budget_seven : Came (run cubes reduce 7 three) Finished 7 1 (cube "-10" ∷ cube "0--" ∷ [])
unfolding made count differing_below seek entered_within entered entered_all arranged path result orders_from groups_with groups_from run_from
budget_seven = record { ending = refl; trials = refl; links = refl; cover = refl }

pub budget_six : Came (run cubes reduce 6 three) Spent 6 1 (cube "-10" ∷ cube "0--" ∷ [])
unfolding made count differing_below seek entered_within entered entered_all arranged path result orders_from groups_with groups_from run_from
budget_six = record { ending = refl; trials = refl; links = refl; cover = refl }

pub either_expanded : expansion_of (0 ∷ 1 ∷ 1 ∷ 0 ∷ []) 0 960 ≡ Ok (cube "0-" ∷ cube "-0" ∷ [])
unfolding made exponent_below cost products chosen
either_expanded = refl

pub both_expanded : expansion_of (0 ∷ 0 ∷ 0 ∷ 1 ∷ []) 0 960 ≡ Ok (cube "11" ∷ [])
unfolding made exponent_below cost products chosen
both_expanded = refl

pub bytes_joined : (blocks).joined (block 170) 0 (block 204) ≡ block 102
unfolding blocks.made
bytes_joined = refl

pub byte_sized : (size_of 102 ≡ 2) × Fewest 102 2
byte_sized = (refl, fewest 102 (lit< tt))
