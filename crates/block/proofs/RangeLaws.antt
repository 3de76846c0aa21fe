-- A test at each number of a range.
-- Assumes nothing.
use Rattle.std.proofs.Common.{◌≡◌, ℕ, zero, suc, ◌+◌, ◌<◌, Bool, true, false, ◌&&◌, sym, refl, ap, ◌∙◌, ap₂, arith}
use Rattle.std.specs.List.{list_all, range_with_len}
use Rattle.esop.specs.Positionwise.{everywhere}

one_more : (a b c : Bool) → a ≡ b → (a && c) ≡ (b && c)
one_more a b c e = ap (λ t. t && c) e

and_assoc : (a b c : Bool) → ((a && b) && c) ≡ (a && (b && c))
and_assoc true b c = refl
and_assoc false b c = refl

from_first : (f : ℕ → Bool) (n : ℕ) → everywhere f (suc n) ≡ (f 0 && everywhere (λ i. f (suc i)) n)
unfolding everywhere
from_first f zero = go (f 0)
  where
    go : (b : Bool) → b ≡ (b && true)
    go true = refl
    go false = refl
from_first f (suc n) = one_more _ _ (f (suc n)) (from_first f n) ∙ and_assoc (f 0) (everywhere (λ i. f (suc i)) n) (f (suc n))

-- n numbers from a on, of which g says the same by their places
pub all_range : (f g : ℕ → Bool) (a n : ℕ) → ((j : ℕ) → j < n → f (a + j) ≡ g j) → list_all f (range_with_len a n) ≡ everywhere g n
unfolding everywhere
all_range f g a zero h = refl
all_range f g a (suc n) h =
    ap₂ ◌&&◌ (ap f (omega arith) ∙ h 0 (omega arith)) (all_range f (λ i. g (suc i)) (a + 1) n (λ j l. ap f (omega arith) ∙ h (suc j) (omega arith)))
    ∙ sym (from_first g n)
