-- Which lists of bytes make a block product.
use Rattle.std.specs.Prelude.{ℕ, Bool, true, ◌&&◌, List, [], ◌∷◌, length, ◌==◌, nat_lt}

-- none of the bytes is 0
abbrev pub nonzero : List ℕ → Bool
nonzero [] = true
nonzero (b ∷ bs) = nat_lt 0 b && nonzero bs

-- eight bytes, and none is 0
abbrev pub sound : List ℕ → Bool
sound bs = length bs == 8 && nonzero bs
