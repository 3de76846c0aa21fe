-- A test at every number below a bound.
-- Assumes nothing.
use Rattle.std.proofs.Common.{◌≡◌, ℕ, zero, suc, ◌<◌, Bool, true, false, ◌&&◌, sym, refl, ap, ◌∙◌, ap₂, ⊎_elim, arith}
use Rattle.std.proofs.lemmas.Bool.{cases_eq, and_from, and_parts}
use Rattle.esop.specs.Positionwise.{everywhere}

pub everywhere_suc : (f : ℕ → Bool) (n : ℕ) → everywhere f (suc n) ≡ (everywhere f n && f n)
unfolding everywhere
everywhere_suc f n = refl

-- tests that agree below n
pub everywhere_same : (f g : ℕ → Bool) (n : ℕ) → ((j : ℕ) → j < n → f j ≡ g j) → everywhere f n ≡ everywhere g n
unfolding everywhere
everywhere_same f g zero agree = refl
everywhere_same f g (suc n) agree = ap₂ ◌&&◌ (everywhere_same f g n (λ j l. agree j (omega arith))) (agree n (omega arith))

pub everywhere_all : (f : ℕ → Bool) (n : ℕ) → ((i : ℕ) → i < n → f i ≡ true) → everywhere f n ≡ true
unfolding everywhere
everywhere_all f zero h = refl
everywhere_all f (suc n) h = and_from _ _ (everywhere_all f n (λ i l. h i (omega arith))) (h n (omega arith))

pub everywhere_at : (f : ℕ → Bool) (n i : ℕ) → i < n → everywhere f n ≡ true → f i ≡ true
unfolding everywhere
everywhere_at f zero i l h = absurd (omega arith)
everywhere_at f (suc n) i l h =
    ⊎_elim (λ (e : i ≡ n). ap f e ∙ (and_parts _ _ h).1) (λ ne. everywhere_at f n i (omega arith) (and_parts _ _ h).0) (cases_eq i n)

and_true : (b : Bool) → (b && true) ≡ b
and_true true = refl
and_true false = refl

and_swap : (a b c : Bool) → ((a && b) && c) ≡ ((a && c) && b)
and_swap true true true = refl
and_swap true true false = refl
and_swap true false true = refl
and_swap true false false = refl
and_swap false b c = refl

-- a test that passes at k, changed there alone
pub everywhere_changed : (f g : ℕ → Bool) (k n : ℕ) → k < n → f k ≡ true → ((i : ℕ) → (i ≡ k → ⊥) → g i ≡ f i)
    → everywhere g n ≡ (everywhere f n && g k)
unfolding everywhere
everywhere_changed f g k zero h t e = absurd (omega arith)
everywhere_changed f g k (suc n) h t e =
    ⊎_elim
    (λ (q : k ≡ n).
    ap₂ ◌&&◌ (everywhere_same g f n (λ i l. e i (λ z. omega arith))) (ap g (sym q))
    ∙ ap (λ b. b && g k) (sym (and_true _) ∙ ap (λ b. everywhere f n && b) (sym (ap f (sym q) ∙ t))))
    (λ ne.
    ap₂ ◌&&◌ (everywhere_changed f g k n (omega arith) t e) (e n (λ z. ne (sym z)))
    ∙ and_swap (everywhere f n) (g k) (f n))
    (cases_eq k n)
