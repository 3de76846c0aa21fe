-- Kinds whose products cover a point where the value at every position lets it through.
use Rattle.std.specs.Prelude.{◌≡◌, ℕ, zero, suc, ◌≤◌, Bool, true, ◌&&◌}
use Rattle.esop.specs.Kind.{Meaning, Positions, differs, either}

-- the test passes at every number below n
unfoldable pub everywhere : (ℕ → Bool) → ℕ → Bool
everywhere f zero = true
everywhere f (suc n) = everywhere f n && f n

-- What such a kind has to show to be lawful. meets i v x: the value v at position i lets the point x through.
pub record Positionwise {P : Type 0} (m : Meaning P) (meets : ℕ → ℕ → ℕ → Bool) : Type 0 where
  pub positions : Positions m
  pub weight_bound : (a : P) → m.weight a ≤ 6561
  -- a point is covered where every position lets it through
  pub covers_is : (a : P) (x : ℕ) → m.covers a x ≡ everywhere (λ i. meets i (m.value a i) x) m.width
  -- where two values differ, the joined value lets a point through exactly when one of them does and the other does not
  pub mixed_meets : (a b : P) (i x : ℕ) → differs m a b i ≡ true → meets i (m.mixed i (m.value a i) (m.value b i)) x ≡ either (meets i (m.value a i) x) (meets i (m.value b i) x)
