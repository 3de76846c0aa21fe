-- Which points a cube covers. Point p + 2 ^ 32 * o is input pattern p at output o, bit i of p being input i.
use Rattle.std.specs.Prelude.{ℕ, ◌+◌, ◌*◌, ◌/◌, ◌^◌, Bool, cond, ◌&&◌, List, [], ◌∷◌, ◌==◌, nat_lt}
use Rattle.esop.specs.Positionwise.{everywhere}
use Rattle.cube.specs.Bit.{bit}
use Rattle.cube.specs.Cubes.{words}
use Rattle.cube.specs.declared.cube.Cube.{Cube}
use Rattle.cube.specs.declared.words.Words.{Words}

-- the value of words at a position: at an input 1 negative, 2 positive, 3 absent; at position 32 the word of driven outputs
abbrev pub value_of : Words → ℕ → ℕ
value_of w i = cond (nat_lt i 32) (bit w.zeros i + 2 * bit w.ones i) (cond (i == 32) w.outputs 0)

-- the value of a cube at a position
abbrev pub value : Cube → ℕ → ℕ
value c i = value_of (words c) i

-- whether the value v at position i lets the point x through
abbrev pub meets : ℕ → ℕ → ℕ → Bool
meets i v x = cond (nat_lt i 32) (bit v (bit x i) == 1) (nat_lt (x / 2 ^ 32) 32 && bit v (x / 2 ^ 32) == 1)

-- the point's output is driven, and every present input agrees with its pattern; points from 2 ^ 37 on have no output
abbrev pub covers : Cube → ℕ → Bool
covers c x = everywhere (λ i. meets i (value c i) x) 33

-- how many cubes of a list cover the point
abbrev pub covering : ℕ → List Cube → ℕ
covering x [] = 0
covering x (c ∷ cs) = cond (covers c x) 1 0 + covering x cs
