-- Products by what is written for them.
use Rattle.std.specs.Prelude.{ℕ, suc, ◌+◌, ◌*◌, cond, List, [], ◌∷◌, codes, ◌==◌}
use Prim.Native.String.{String}
use Rattle.block.specs.Blocks as blocks
use Rattle.block.specs.declared.block.BlockProduct.{BlockProduct}
use Rattle.cube.specs.Cubes.{words_of, made, with_form}
use Rattle.cube.specs.declared.cube.Cube.{Cube}
use Rattle.cube.specs.declared.cube.Form.{Form}
use Rattle.cube.specs.declared.cube.Form.TheVariants.{Negative, Positive, Absent}

-- by the character of an input: 48 is that of 0, and 49 that of 1
abbrev pub form_of_char : ℕ → Form
form_of_char c = cond (c == 48) Negative (cond (c == 49) Positive Absent)

-- the cube with the forms that the characters give to its inputs from i on
abbrev pub formed_from : Cube → ℕ → List ℕ → Cube
formed_from p i [] = p
formed_from p i (c ∷ cs) = formed_from (with_form p i (form_of_char c)) (suc i) cs

-- the word of outputs that the characters drive, output 0 first
abbrev pub driving : List ℕ → ℕ
driving [] = 0
driving (c ∷ cs) = cond (c == 49) 1 0 + 2 * driving cs

-- the cube of a row, by its inputs and its outputs; inputs that are not written are absent
abbrev pub row : String → String → Cube
row is os = formed_from (made (words_of 4294967295 4294967295 (driving (codes os)))) 0 (codes is)

-- the cube of a row that drives output 0 alone
abbrev pub cube : String → Cube
cube is = row is "1"

-- the block product with a byte at position 0, and 255 at the others
abbrev pub block : ℕ → BlockProduct
block b = blocks.made (b ∷ 255 ∷ 255 ∷ 255 ∷ 255 ∷ 255 ∷ 255 ∷ 255 ∷ [])
