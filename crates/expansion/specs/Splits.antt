-- The three ways to split a function at an input, and which of them is taken.
use Rattle.std.specs.Prelude.{ℕ, ◌+◌, ◌^◌, cond, ◌&&◌, List, take, drop, nat_le}
use Rattle.cube.specs.declared.cube.Form.{Form}
use Rattle.cube.specs.declared.cube.Form.TheVariants.{Negative, Positive, Absent}
use Rattle.expansion.specs.Tables.{mixed}
use Rattle.expansion.specs.declared.split.Split.{Split}
use Rattle.expansion.specs.declared.split.Split.TheVariants.{Shannon, PositiveDavio, NegativeDavio}

-- with low, high and sum what f0, f1 and f2 need: leave out the part that needs most, of equals f0 first, then f1
abbrev pub cheapest : ℕ → ℕ → ℕ → Split
cheapest low high sum =
    cond (nat_le high low && nat_le sum low) NegativeDavio (cond (nat_le low high && nat_le sum high) PositiveDavio Shannon)

-- what the two parts that are kept need together
abbrev pub spent : Split → ℕ → ℕ → ℕ → ℕ
spent Shannon low high sum = low + high
spent PositiveDavio low high sum = low + sum
spent NegativeDavio low high sum = high + sum

-- the form of the split input in the products of the first summand, and of the second
abbrev pub first_form : Split → Form
first_form Shannon = Negative
first_form PositiveDavio = Absent
first_form NegativeDavio = Absent

abbrev pub second_form : Split → Form
second_form Shannon = Positive
second_form PositiveDavio = Positive
second_form NegativeDavio = Negative

-- where the first summand's part begins
abbrev pub first_from : Split → ℕ → ℕ
first_from Shannon half = 0
first_from PositiveDavio half = 0
first_from NegativeDavio half = half

-- of a table of 2 ^ k + 2 ^ k bytes: f0, f1, f2
abbrev pub low : ℕ → List ℕ → List ℕ
low k t = take (2 ^ k) t

abbrev pub high : ℕ → List ℕ → List ℕ
high k t = drop (2 ^ k) t

abbrev pub sum : ℕ → List ℕ → List ℕ
sum k t = mixed (high k t) (low k t)

-- the part of the first summand, and of the second
abbrev pub first_part : Split → ℕ → List ℕ → List ℕ
first_part Shannon k t = low k t
first_part PositiveDavio k t = low k t
first_part NegativeDavio k t = high k t

abbrev pub second_part : Split → ℕ → List ℕ → List ℕ
second_part Shannon k t = high k t
second_part PositiveDavio k t = sum k t
second_part NegativeDavio k t = sum k t
