-- Which links are kept.
use Rattle.std.specs.Prelude.{◌≡◌, ℕ, ◌<◌, Bool, true, cond, ◌&&◌, ◌||◌, ◌⊎◌, ◌==◌, nat_le, nat_lt}

-- a yes or no for the distance of the two products linked, the count and the total weight of the cover before, and the count and the total weight after
abbrev pub Test : Type 0
Test = ℕ → ℕ → ℕ → ℕ → ℕ → Bool

-- the count falls from n to n', or it stays and the weight falls from w to w'
abbrev pub Lower : ℕ → ℕ → ℕ → ℕ → Type 0
Lower n w n' w' = (n' < n) ⊎ ((n' ≡ n) × (w' < w))

-- a yes only where the cover gets lower, so that no cover comes back
abbrev pub Strict : Test → Type 0
Strict t = (k n w n' w' : ℕ) → t k n w n' w' ≡ true → Lower n w n' w'

-- whether the cover gets lower
abbrev pub lowers : ℕ → ℕ → ℕ → ℕ → Bool
lowers n w n' w' = nat_lt n' n || (n' == n && nat_lt w' w)

-- at distance 2 the count has to fall; at 3 and 4 it is enough that the cover gets lower
abbrev pub reduce : Test
reduce k n w n' w' = cond (k == 2) (nat_lt n' n) ((k == 3 || k == 4) && lowers n w n' w')

-- at distance 2 and 3 the weight has to fall, and the count must not rise
abbrev pub refine : Test
refine k n w n' w' = (k == 2 || k == 3) && (nat_le n' n && nat_lt w' w)
