-- Which three words make a cube, and what a cube says of each input and output.
use Rattle.std.specs.Prelude.{◌≡◌, ℕ, Bool, true, false, cond, ◌&&◌, Ok, Err, Result, ◌==◌, bit_or, nat_lt, refl}
use Rattle.std.proofs.Common.{lit<}
use Rattle.std.proofs.lemmas.Bool.{eqb-true, ltb-true}
use Rattle.cube.specs.Bit.{bit, with_bit, without_bit}
use Rattle.cube.specs.declared.cube.Cube.{Cube}
use Rattle.cube.specs.declared.cube.Form.{Form}
use Rattle.cube.specs.declared.cube.Form.TheVariants.{Negative, Positive, Absent}
use Rattle.cube.specs.declared.cube.CubeRefusal.{CubeRefusal}
use Rattle.cube.specs.declared.cube.CubeRefusal.TheVariants.{NoForm, NoOutput}
use Rattle.cube.specs.declared.words.Words.{Words}

-- the inputs that may be 0, the inputs that may be 1, and the driven outputs, each as a word of bits
abbrev pub words_of : ℕ → ℕ → ℕ → Words
words_of z o u = record { zeros = z; ones = o; outputs = u }

abbrev pub words : Cube → Words
words c = words_of c.zeros c.ones c.outputs

-- each of the 32 inputs has a bit in one word or both
abbrev pub has_forms : Words → Bool
has_forms w = bit_or w.zeros w.ones == 4294967295

abbrev pub has_output : Words → Bool
has_output w = nat_lt 0 w.outputs

-- the product that looks at no input and drives output 0
abbrev pub tautology : Cube
tautology = record { zeros = 4294967295; ones = 4294967295; outputs = 1; full = refl; driven = lit< tt }

-- the cube of words whose two tests came out as f and d
abbrev pub made_by : (w : Words) (f d : Bool) → has_forms w ≡ f → has_output w ≡ d → Cube
made_by w true true p q =
    record { zeros = w.zeros; ones = w.ones; outputs = w.outputs; full = eqb-true _ _ p; driven = ltb-true _ _ q }
made_by w true false p q = tautology
made_by w false d p q = tautology

-- the cube of these words; words that make none have the tautology in its place, and no call answers it for them
unfoldable pub made : Words → Cube
made w = made_by w (has_forms w) (has_output w) refl refl

-- what making a cube of these words answers
abbrev pub created : Words → Result Cube CubeRefusal
created w = cond (has_forms w) (cond (has_output w) (Ok (made w)) (Err NoOutput)) (Err NoForm)

-- the numbers of the refusals
abbrev pub number : CubeRefusal → ℕ
number NoForm = 8
number NoOutput = 9

-- the form of input i; past the last every input is absent
abbrev pub form_of : Cube → ℕ → Form
form_of c i =
    cond (nat_lt i 32)
    (cond (bit c.zeros i == 1) (cond (bit c.ones i == 1) Absent Negative) Positive)
    Absent

-- whether output o is driven
abbrev pub driven : Cube → ℕ → Bool
driven c o = nat_lt o 32 && bit c.outputs o == 1

-- the words with input i in a form
abbrev pub formed : Words → ℕ → Form → Words
formed w i Negative = words_of (with_bit w.zeros i) (without_bit w.ones i) w.outputs
formed w i Positive = words_of (without_bit w.zeros i) (with_bit w.ones i) w.outputs
formed w i Absent = words_of (with_bit w.zeros i) (with_bit w.ones i) w.outputs

-- the cube with input i in a form; the cube itself where there is no such input
abbrev pub with_form : Cube → ℕ → Form → Cube
with_form c i f = cond (nat_lt i 32) (made (formed (words c) i f)) c
