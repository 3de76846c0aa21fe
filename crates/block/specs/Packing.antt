-- Packing a cube: each three inputs become the truth table of their forms.
use Rattle.std.specs.Prelude.{◌≡◌, ℕ, ◌+◌, ◌*◌, ◌^◌, ◌<◌, Bool, true, false, cond, List, [], ◌∷◌, Ok, Err, Result, ◌==◌, bit_and, bit_xor}
use Rattle.esop.specs.Positionwise.{everywhere}
use Rattle.cube.specs.Cubes.{form_of}
use Rattle.cube.specs.Covering as cubes
use Rattle.cube.specs.declared.cube.Cube.{Cube}
use Rattle.cube.specs.declared.cube.Form.{Form}
use Rattle.cube.specs.declared.cube.Form.TheVariants.{Negative, Positive, Absent}
use Rattle.block.specs.Blocks.{made}
use Rattle.block.specs.Products.{covered}
use Rattle.block.specs.declared.block.BlockProduct.{BlockProduct}
use Rattle.block.specs.declared.block.PackRefusal.{PackRefusal}
use Rattle.block.specs.declared.block.PackRefusal.TheVariants.{Input, Output}

-- the truth table of an input in a form; own is that of the input itself
abbrev pub form_table : Form → ℕ → ℕ
form_table Negative own = bit_xor 255 own
form_table Positive own = own
form_table Absent own = 255

-- the truth table of three inputs in their forms: 170, 204 and 240 are those of the first, the second and the third
abbrev pub table_of : Form → Form → Form → ℕ
table_of first second third = bit_and (bit_and (form_table first 170) (form_table second 204)) (form_table third 240)

-- the truth table of inputs 3g to 3g + 2
unfoldable pub packed_byte : Cube → ℕ → ℕ
packed_byte c g = table_of (form_of c (3 * g)) (form_of c (3 * g + 1)) (form_of c (3 * g + 2))

abbrev pub packed_bytes : Cube → List ℕ
packed_bytes c =
    packed_byte c 0 ∷ packed_byte c 1 ∷ packed_byte c 2 ∷ packed_byte c 3 ∷ packed_byte c 4 ∷ packed_byte c 5 ∷ packed_byte c 6 ∷ packed_byte c 7 ∷ []

abbrev pub is_absent : Form → Bool
is_absent Negative = false
is_absent Positive = false
is_absent Absent = true

-- inputs 24 to 31 are absent
abbrev pub keeps_inputs : Cube → Bool
keeps_inputs c = everywhere (λ j. is_absent (form_of c (24 + j))) 8

-- the questions in order, and the block product
abbrev pub packed : Cube → Result BlockProduct PackRefusal
packed c = cond (keeps_inputs c) (cond (c.outputs == 1) (Ok (made (packed_bytes c))) (Err Output)) (Err Input)

-- a product that is answered covers the points below 2 ^ 24 that the cube covers, and no other of them
abbrev pub SameCovering : Cube → Result BlockProduct PackRefusal → Type 0
SameCovering c (Ok a) = (x : ℕ) → x < 2 ^ 24 → covered a x ≡ cubes.covers c x
SameCovering c (Err why) = Unit {0}

-- the numbers of the refusals
abbrev pub number : PackRefusal → ℕ
number Input = 11
number Output = 12
