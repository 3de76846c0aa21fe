-- The text of a sheet: a heading, a row for each product, and an end.
use Rattle.std.specs.Prelude.{ℕ, zero, suc, ◌+◌, ◌/◌, ◌%◌, Bool, true, false, cond, not, ◌&&◌, ◌||◌, List, [], ◌∷◌, ◌++◌, length, codes, nat_lt}
use Rattle.std.specs.List.{flat_map}
use Rattle.cube.specs.Cubes.{form_of, driven}
use Rattle.esop.specs.Positionwise.{everywhere}
use Rattle.cube.specs.declared.cube.Cube.{Cube}
use Rattle.cube.specs.declared.cube.Form.{Form}
use Rattle.cube.specs.declared.cube.Form.TheVariants.{Negative, Positive, Absent}

-- the character of the last decimal digit of n
abbrev pub digit : ℕ → ℕ
digit n = 48 + n % 10

-- a number below 1000 in decimal, with no leading zero
unfoldable pub decimal : ℕ → List ℕ
decimal n =
    cond (nat_lt n 10) (digit n ∷ [])
    (cond (nat_lt n 100) (digit (n / 10) ∷ digit n ∷ []) (digit (n / 100) ∷ digit (n / 10) ∷ digit n ∷ []))

-- the characters of a line and the line feed that ends it
abbrev pub line : List ℕ → List ℕ
line t = t ++ 10 ∷ []

-- a point, a letter, a space and a number
abbrev pub field : ℕ → ℕ → List ℕ
field letter n = 46 ∷ letter ∷ 32 ∷ decimal n

abbrev pub type_text : List ℕ
type_text = codes ".type esop"

-- the letters of the fields are i, o and p
unfoldable pub heading_text : ℕ → ℕ → ℕ → List ℕ
heading_text i o n = line (field 105 i) ++ line (field 111 o) ++ line type_text ++ line (field 112 n)

-- the character of a form, and of an output
abbrev pub form_char : Form → ℕ
form_char Negative = 48
form_char Positive = 49
form_char Absent = 45

abbrev pub driven_char : Bool → ℕ
driven_char true = 49
driven_char false = 48

-- the characters f 0 to f (n - 1)
unfoldable pub chars : (ℕ → ℕ) → ℕ → List ℕ
chars f zero = []
chars f (suc n) = chars f n ++ f n ∷ []

-- the first i inputs of a product, and its first o outputs
abbrev pub input_chars : Cube → ℕ → List ℕ
input_chars c i = chars (λ j. form_char (form_of c j)) i

abbrev pub output_chars : Cube → ℕ → List ℕ
output_chars c o = chars (λ j. driven_char (driven c j)) o

unfoldable pub row_text : ℕ → ℕ → Cube → List ℕ
row_text i o c = line (input_chars c i ++ 32 ∷ output_chars c o)

abbrev pub end_text : List ℕ
end_text = line (codes ".e")

-- a whole sheet: its heading tells the number of its rows
abbrev pub sheet_text : ℕ → ℕ → List Cube → List ℕ
sheet_text i o cs = heading_text i o (length cs) ++ flat_map (row_text i o) cs ++ end_text

abbrev pub absent : Form → Bool
absent Negative = false
absent Positive = false
absent Absent = true

-- at place j: an input from i on is absent, and an output from o on is not driven
abbrev pub keeps_at : ℕ → ℕ → Cube → ℕ → Bool
keeps_at i o c j = (nat_lt j i || absent (form_of c j)) && (nat_lt j o || not (driven c j))

-- every input from i on is absent, and no output from o on is driven, so a row of i inputs and o outputs tells all of c
abbrev pub keeps_to : ℕ → ℕ → Cube → Bool
keeps_to i o c = everywhere (keeps_at i o c) 32
