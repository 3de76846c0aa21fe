-- The bits of a number.
use Rattle.std.specs.Prelude.{ℕ, ◌/◌, ◌%◌, ◌^◌, bit_and, bit_or, bit_xor}

-- bit i of n
abbrev pub bit : ℕ → ℕ → ℕ
bit n i = n / 2 ^ i % 2

-- n with bit i set
abbrev pub with_bit : ℕ → ℕ → ℕ
with_bit n i = bit_or n (2 ^ i)

-- n with bit i not set
abbrev pub without_bit : ℕ → ℕ → ℕ
without_bit n i = bit_xor (with_bit n i) (2 ^ i)

-- the bits of b where m has a bit, and those of a elsewhere
abbrev pub chosen : ℕ → ℕ → ℕ → ℕ
chosen a b m = bit_xor a (bit_and (bit_xor a b) m)
