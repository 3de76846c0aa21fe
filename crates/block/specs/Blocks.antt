-- Which bytes make a block product, and what it has at each position.
use Rattle.std.specs.Prelude.{◌≡◌, ℕ, Bool, true, false, cond, List, [], ◌∷◌, Ok, Err, Result, slice_index, refl}
use Rattle.block.specs.Bytes.{sound}
use Rattle.block.specs.declared.block.BlockProduct.{BlockProduct}
use Rattle.block.specs.declared.block.BlockRefusal.{BlockRefusal}
use Rattle.block.specs.declared.block.BlockRefusal.TheVariants.{ZeroByte}

-- the product that covers every point
abbrev pub tautology : BlockProduct
tautology = record { bytes = 255 ∷ 255 ∷ 255 ∷ 255 ∷ 255 ∷ 255 ∷ 255 ∷ 255 ∷ []; eight = refl }

-- the product of bytes whose test came out as t
abbrev pub made_by : (bs : List ℕ) (t : Bool) → sound bs ≡ t → BlockProduct
made_by bs true p = record { bytes = bs; eight = p }
made_by bs false p = tautology

-- the product of these bytes; bytes that make none have the tautology in its place, and no call answers it for them
unfoldable pub made : List ℕ → BlockProduct
made bs = made_by bs (sound bs) refl

-- what making a product of these bytes answers
abbrev pub created : List ℕ → Result BlockProduct BlockRefusal
created bs = cond (sound bs) (Ok (made bs)) (Err ZeroByte)

-- the number of the refusal
abbrev pub number : BlockRefusal → ℕ
number ZeroByte = 10

-- the byte at position g; 0 past the last
abbrev pub value : BlockProduct → ℕ → ℕ
value a g = slice_index a.bytes g
