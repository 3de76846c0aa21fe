-- The number of a heading line.
use Rattle.std.specs.Prelude.{ℕ, ◌+◌, ◌-◌, ◌*◌, Bool, cond, ◌&&◌, List, [], ◌∷◌, Some, None, Ok, Err, Option, Result, ◌==◌, nat_le}
use Rattle.reader.specs.declared.state.ReadRefusal.{ReadRefusal}
use Rattle.reader.specs.declared.state.ReadRefusal.TheVariants as why

abbrev pub is_digit : ℕ → Bool
is_digit c = nat_le 48 c && nat_le c 57

-- the value of the digits ds after digits of the value n
abbrev pub value_from : ℕ → List ℕ → Option ℕ
value_from n [] = Some n
value_from n (d ∷ ds) = cond (is_digit d) (value_from (n * 10 + (d - 48)) ds) None

-- at least one digit, and no leading zero
abbrev pub numeral : List ℕ → Option ℕ
numeral [] = None
numeral (d ∷ []) = value_from 0 (d ∷ [])
numeral (d ∷ e ∷ ds) = cond (d == 48) None (value_from 0 (d ∷ e ∷ ds))

abbrev pub within : ℕ → ℕ → Option ℕ → Option ℕ
within low high None = None
within low high (Some n) = cond (nat_le low n && nat_le n high) (Some n) None

abbrev pub numeral_in : ℕ → ℕ → List ℕ → Option ℕ
numeral_in low high cs = within low high (numeral cs)

-- what stands after the start of a heading line: one space and a number from low to high
abbrev pub number_in : ℕ → ℕ → List ℕ → Option ℕ
number_in low high [] = None
number_in low high (c ∷ cs) = cond (c == 32) (numeral_in low high cs) None

abbrev pub wanted : Option ℕ → Result ℕ ReadRefusal
wanted None = Err why.Number
wanted (Some n) = Ok n

-- a number of rows, for a list of so many places
abbrev pub placed : ℕ → Result ℕ ReadRefusal → Result ℕ ReadRefusal
placed places (Ok n) = cond (nat_le n places) (Ok n) (Err why.FewPlaces)
placed places (Err e) = Err e
