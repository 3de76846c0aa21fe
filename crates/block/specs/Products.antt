-- Block products as a kind of product: eight positions, with a byte at each.
use Rattle.std.specs.Prelude.{ℕ, ◌*◌, ◌/◌, ◌%◌, ◌^◌, Bool, cond, not, ◌&&◌, List, [], ◌∷◌, ◌==◌, bit_xor, nat_lt, slice_set}
use Rattle.esop.specs.Kind.{Meaning}
use Rattle.esop.specs.Positionwise.{everywhere}
use Rattle.block.specs.Blocks.{made, value}
use Rattle.block.specs.Sizes.{size_of}
use Rattle.block.specs.declared.block.BlockProduct.{BlockProduct}

-- bit i of n
abbrev pub bit : ℕ → ℕ → ℕ
bit n i = n / 2 ^ i % 2

-- what the point x has at position g: its bits 3g to 3g + 2
abbrev pub group : ℕ → ℕ → ℕ
group x g = x / 2 ^ (3 * g) % 8

-- byte b at position g is true at what the point x has there
abbrev pub passes : ℕ → ℕ → ℕ → Bool
passes g b x = bit b (group x g) == 1

-- the point is below 2 ^ 24, and each of the eight bytes is true at what it has there
abbrev pub covered : BlockProduct → ℕ → Bool
covered a x = nat_lt x (2 ^ 24) && everywhere (λ g. passes g (value a g) x) 8

-- a with its byte g replaced by that of b; a itself past the last position
abbrev pub taken : BlockProduct → ℕ → BlockProduct → BlockProduct
taken a g b = cond (nat_lt g 8) (made (slice_set a.bytes g (value b g))) a

-- a with its byte g replaced by the exclusive or of the two; a itself where they do not differ
abbrev pub joined : BlockProduct → ℕ → BlockProduct → BlockProduct
joined a g b =
    cond (nat_lt g 8 && not (value a g == value b g))
    (made (slice_set a.bytes g (bit_xor (value a g) (value b g))))
    a

-- the product of the sizes of these bytes
abbrev pub weight_of : List ℕ → ℕ
weight_of [] = 1
weight_of (b ∷ bs) = size_of b * weight_of bs

abbrev pub blocks : Meaning BlockProduct
blocks =
    record {
      width = 8;
      value = value;
      mixed = λ _ u v. bit_xor u v;
      taken = taken;
      joined = joined;
      weight = λ a. weight_of a.bytes;
      covers = covered;
    }
