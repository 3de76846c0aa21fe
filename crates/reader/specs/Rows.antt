-- The product of a row.
use Rattle.std.specs.Prelude.{ℕ, ◌+◌, ◌-◌, ◌*◌, ◌^◌, Bool, cond, ◌&&◌, List, [], ◌∷◌, length, Some, None, Ok, Err, Option, Result, ◌==◌, nat_le}
use Rattle.cube.specs.Cubes.{created, words_of}
use Rattle.cube.specs.declared.cube.Cube.{Cube}
use Rattle.cube.specs.declared.cube.CubeRefusal.{CubeRefusal}
use Rattle.cube.specs.declared.cube.CubeRefusal.TheVariants as unmade
use Rattle.reader.specs.declared.state.ReadRefusal.{ReadRefusal}
use Rattle.reader.specs.declared.state.ReadRefusal.TheVariants.{Malformed, NoOutput}

-- by the character of an input: 1 where it may be 0, and 1 where it may be 1
abbrev pub form_bits : ℕ → Option (ℕ × ℕ)
form_bits c = cond (c == 48) (Some (1, 0)) (cond (c == 49) (Some (0, 1)) (cond (c == 45) (Some (1, 1)) None))

-- by the character of an output: 1 where it is driven
abbrev pub driven_bit : ℕ → Option ℕ
driven_bit c = cond (c == 48) (Some 0) (cond (c == 49) (Some 1) None)

-- the lowest bits of two words, or of one, before the higher ones
abbrev pub under : Option (ℕ × ℕ) → Option (ℕ × ℕ) → Option (ℕ × ℕ)
under None w = None
under (Some f) None = None
under (Some f) (Some w) = Some (f.0 + 2 * w.0, f.1 + 2 * w.1)

abbrev pub below : Option ℕ → Option ℕ → Option ℕ
below None w = None
below (Some d) None = None
below (Some d) (Some w) = Some (d + 2 * w)

-- input 0 first; the bits past the last character are those of h
abbrev pub forms_over : ℕ → List ℕ → Option (ℕ × ℕ)
forms_over h [] = Some (h, h)
forms_over h (c ∷ cs) = under (form_bits c) (forms_over h cs)

-- output 0 first
abbrev pub driven_word : List ℕ → Option ℕ
driven_word [] = Some 0
driven_word (c ∷ cs) = below (driven_bit c) (driven_word cs)

-- the inputs past the last character are absent, so that both words have their bits
abbrev pub form_words : List ℕ → Option (ℕ × ℕ)
form_words cs = forms_over (2 ^ (32 - length cs) - 1) cs

-- each character gives its input a form, so the only product that is not made is one without an output
abbrev pub row_refusal : CubeRefusal → ReadRefusal
row_refusal unmade.NoForm = Malformed
row_refusal unmade.NoOutput = NoOutput

abbrev pub made_row : Result Cube CubeRefusal → Result Cube ReadRefusal
made_row (Ok c) = Ok c
made_row (Err e) = Err (row_refusal e)

abbrev pub row_of_words : Option (ℕ × ℕ) → Option ℕ → Result Cube ReadRefusal
row_of_words None u = Err Malformed
row_of_words (Some w) None = Err Malformed
row_of_words (Some w) (Some u) = made_row (created (words_of w.0 w.1 u))

-- whether the parts of a row are as long as the heading says; a word has no more than 32 bits
abbrev pub as_long : ℕ → ℕ → List ℕ → List ℕ → Bool
as_long i o is os = (length is == i && length os == o) && (nat_le i 32 && nat_le o 32)

-- the product of a row, by its characters before the space and after it
unfoldable pub product_of : ℕ → ℕ → List ℕ → List ℕ → Result Cube ReadRefusal
product_of i o is os = cond (as_long i o is os) (row_of_words (form_words is) (driven_word os)) (Err Malformed)
