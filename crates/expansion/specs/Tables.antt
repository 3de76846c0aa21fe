-- Truth tables, their halves, and the exclusive or of the halves.
use Rattle.std.specs.Prelude.{◌≡◌, ℕ, zero, suc, ◌^◌, ◌≤◌, Bool, cond, length, List, [], ◌∷◌, ◌++◌, take, drop, Some, None, Option, ◌==◌, bit_xor, nat_lt}
use Rattle.std.specs.List.{list_all}
use Rattle.expansion.specs.declared.split.Split.{Split}
use Rattle.expansion.specs.declared.split.Split.TheVariants.{Shannon, PositiveDavio, NegativeDavio}

-- each byte is 0 or 1
abbrev pub binary : List ℕ → Bool
binary t = list_all (λ b. nat_lt b 2) t

-- the exponent below k of the power of two that n is
unfoldable pub exponent_below : ℕ → ℕ → Option ℕ
exponent_below zero n = None
exponent_below (suc k) n = cond (n == 2 ^ k) (Some k) (exponent_below k n)

-- the number of inputs of a table of n bytes: at most 10
abbrev pub inputs_of : ℕ → Option ℕ
inputs_of n = exponent_below 11 n

-- a table of k inputs, which has a byte for each of their patterns
abbrev pub HasInputs : ℕ → List ℕ → Type 0
HasInputs k t = (k ≤ 10) × (length t ≡ 2 ^ k)

-- exclusive or, place by place
abbrev pub mixed : List ℕ → List ℕ → List ℕ
mixed [] ys = []
mixed (x ∷ xs) [] = x ∷ xs
mixed (x ∷ xs) (y ∷ ys) = bit_xor x y ∷ mixed xs ys

-- the lower half, and both halves' exclusive or in the place of the upper
abbrev pub folded : ℕ → List ℕ → List ℕ
folded half t = take half t ++ mixed (drop half t) (take half t)

-- the part of the second summand in the place of the upper half
abbrev pub turned : Split → ℕ → List ℕ → List ℕ
turned Shannon half t = t
turned PositiveDavio half t = folded half t
turned NegativeDavio half t = folded half t
