-- Cubes as a kind of product. Positions 0 to 31 are the inputs, and position 32 holds the driven outputs.
use Rattle.std.specs.Prelude.{ℕ, zero, suc, ◌+◌, ◌^◌, Bool, cond, not, ◌&&◌, ◌==◌, bit_xor, nat_lt}
use Rattle.esop.specs.Kind.{Meaning}
use Rattle.cube.specs.Bit.{chosen}
use Rattle.cube.specs.Cubes.{words, words_of, made}
use Rattle.cube.specs.Covering.{value, covers}
use Rattle.cube.specs.declared.cube.Cube.{Cube}
use Rattle.cube.specs.declared.words.Words.{Words}

-- the words w with input i of the words v
abbrev pub taken_input : Words → ℕ → Words → Words
taken_input w i v = words_of (chosen w.zeros v.zeros (2 ^ i)) (chosen w.ones v.ones (2 ^ i)) w.outputs

-- the words w with the outputs of the words v
abbrev pub taken_outputs : Words → Words → Words
taken_outputs w v = words_of w.zeros w.ones v.outputs

-- the words w with position i of the words v
abbrev pub taken_words : Words → ℕ → Words → Words
taken_words w i v = cond (nat_lt i 32) (taken_input w i v) (taken_outputs w v)

-- at each position the exclusive or: of two different forms the third, and of two sets of outputs those in exactly one
abbrev pub mixed_words : Words → Words → Words
mixed_words w v = words_of (bit_xor w.zeros v.zeros) (bit_xor w.ones v.ones) (bit_xor w.outputs v.outputs)

-- whether two cubes have different values at position i; past the last position nothing differs
abbrev pub unlike : Cube → Cube → ℕ → Bool
unlike a b i = nat_lt i 33 && not (value a i == value b i)

-- a with position i of b; a itself where there is no such position
abbrev pub taken : Cube → ℕ → Cube → Cube
taken a i b = cond (nat_lt i 33) (made (taken_words (words a) i (words b))) a

-- a with the joined value of a and b at position i; a itself where the two do not differ
abbrev pub joined : Cube → ℕ → Cube → Cube
joined a i b = cond (unlike a b i) (made (taken_words (words a) i (mixed_words (words a) (words b)))) a

-- how many numbers below n pass the test
unfoldable pub count : (ℕ → Bool) → ℕ → ℕ
count f zero = 0
count f (suc n) = count f n + cond (f n) 1 0

-- how many inputs are present, that is not absent
abbrev pub present_inputs : Cube → ℕ
present_inputs c = count (λ i. not (value c i == 3)) 32

-- what a cube weighs
abbrev pub weight_of : Cube → ℕ
weight_of c = present_inputs c

abbrev pub cubes : Meaning Cube
cubes = record {
  width = 33;
  value = value;
  mixed = λ _ u v. bit_xor u v;
  taken = taken;
  joined = joined;
  weight = weight_of;
  covers = covers;
}
