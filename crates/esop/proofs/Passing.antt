-- The numbers below a bound at which a test passes, in a list.
use Rattle.std.proofs.Common.{◌≡◌, ℕ, zero, suc, ◌+◌, ◌<◌, ◌≤◌, Bool, true, false, cond, ◌&&◌, eqb, ltb, ◌⊎◌, List, [], ◌∷◌, ◌++◌, length, get_or, take, drop, sym, refl, ap, ◌∙◌, subst, inl, inr, append_assoc, zero-add, arith}
use lib.Dec.{leb-suc-zero}
use Rattle.std.specs.List.{remove}
use Rattle.std.proofs.lemmas.List.{append-nil, length_push, get_or_append_left, get_or_push, take-append-le, drop-append-le, take_at, drop_all}
use Rattle.std.proofs.lemmas.Bool.{cases_lt, cond-true, cond-false, ne_eqb, eq-eqb}
use Rattle.std.proofs.lemmas.Bool.Decides.{nat_tests}
use Rattle.esop.specs.Entering.{bit}
use Rattle.esop.specs.Linking.{occurs, Ascending}

pub occurs_append : (j : ℕ) (s t : List ℕ) → occurs j (s ++ t) ≡ occurs j s + occurs j t
occurs_append j [] t = sym (zero-add (occurs j t))
occurs_append j (d ∷ s) t = let h = occurs_append j s t in omega arith

-- a place of the front is removed from the front
removed_front : {X : Type 0} (xs ys : List X) (i : ℕ) → i < length xs → remove (xs ++ ys) i ≡ remove xs i ++ ys
removed_front xs ys i h =
    ap (λ zs. zs ++ drop (suc i) (xs ++ ys)) (take-append-le i xs ys (omega arith))
    ∙ ap (λ zs. take i xs ++ zs) (drop-append-le (suc i) xs ys (omega arith))
    ∙ sym (append_assoc (take i xs) (drop (suc i) xs) ys)

removed_last : {X : Type 0} (xs : List X) (x : X) → remove (xs ++ x ∷ []) (length xs) ≡ xs
removed_last xs x =
    ap (λ zs. zs ++ drop (suc (length xs)) (xs ++ x ∷ [])) (take_at xs (x ∷ []) (length xs) refl)
    ∙ ap (λ zs. xs ++ zs) (drop_all (suc (length xs)) (xs ++ x ∷ []) (omega (arith, length_push xs x)))
    ∙ append-nil xs

-- the numbers below n at which f passes
abbrev pub passing : (ℕ → Bool) → ℕ → List ℕ
passing f zero = []
passing f (suc n) = passing f n ++ cond (f n) (n ∷ []) []

passing_same : (f g : ℕ → Bool) (n : ℕ) → ((j : ℕ) → j < n → g j ≡ f j) → passing g n ≡ passing f n
passing_same f g zero e = refl
passing_same f g (suc n) e =
    ap (λ xs. xs ++ cond (g n) (n ∷ []) []) (passing_same f g n (λ j l. e j (omega arith))) ∙ ap (λ t. passing f n ++ cond t (n ∷ []) []) (e n (omega arith))

module _ (f : ℕ → Bool) where
  abbrev one : ℕ → List ℕ
  one n = cond (f n) (n ∷ []) []

  -- a place of the longer list is one of the shorter, or the last, which holds n
  place : (n k : ℕ) → k < length (passing f (suc n)) → (k < length (passing f n)) ⊎ ((k ≡ length (passing f n)) × (f n ≡ true))
  place n k h = go (f n) refl (cases_lt k (length (passing f n)))
    where
      go : (t : Bool) → f n ≡ t → (k < length (passing f n)) ⊎ (length (passing f n) ≤ k) → (k < length (passing f n)) ⊎ ((k ≡ length (passing f n)) × (f n ≡ true))
      go t e (inl l) = inl l
      go true e (inr u) =
          let long : k < length (passing f n ++ n ∷ []) = subst (λ t. k < length (passing f n ++ cond t (n ∷ []) [])) e h in
          inr (omega (arith, length_push (passing f n) n), e)
      go false e (inr u) =
          let short : k < length (passing f n ++ []) = subst (λ t. k < length (passing f n ++ cond t (n ∷ []) [])) e h in
          absurd (omega (arith, ap length (append-nil (passing f n))))

  -- what stands there
  place_early : (n k : ℕ) → k < length (passing f n) → get_or (passing f (suc n)) k 0 ≡ get_or (passing f n) k 0
  place_early n k h = get_or_append_left (passing f n) (one n) 0 k h

  place_last : (n k : ℕ) → k ≡ length (passing f n) → f n ≡ true → get_or (passing f (suc n)) k 0 ≡ n
  place_last n k h e = ap (λ t. get_or (passing f n ++ cond t (n ∷ []) []) k 0) e ∙ get_or_push (passing f n) n 0 k (sym h)

  passing_below : (n k : ℕ) → k < length (passing f n) → get_or (passing f n) k 0 < n
  passing_below zero k h = absurd (omega arith)
  passing_below (suc n) k h =
      elim (place n k h) [
        | inl l ↦ omega (arith, passing_below n k l, place_early n k l)
        | inr l ↦ omega (arith, place_last n k l.0 l.1)
      ]

  pub passing_ascending : (n : ℕ) → Ascending (passing f n)
  passing_ascending zero i j l h = absurd (omega arith)
  passing_ascending (suc n) i j l h =
      elim (place n j h) [
        | inl k ↦
            (let less : i < length (passing f n) = omega arith in
            omega (arith, passing_ascending n i j l k, place_early n i less, place_early n j k))
        | inr k ↦
            (let less : i < length (passing f n) = omega (arith, k.0) in
            omega (arith, passing_below n i less, place_early n i less, place_last n j k.0 k.1))
      ]

  one_more : (j n : ℕ) → bit (ltb j n && f j) + occurs j (one n) ≡ bit (ltb j (suc n) && f j)
  one_more j n = go (f n) refl
    where
      go : (b : Bool) → f n ≡ b → bit (ltb j n && f j) + occurs j (cond b (n ∷ []) []) ≡ bit (ltb j (suc n) && f j)
      go true e = grind (arith, nat_tests)
      go false e = grind (arith, nat_tests)

  pub occurs_passing : (j n : ℕ) → occurs j (passing f n) ≡ bit (ltb j n && f j)
  occurs_passing j zero = ap (λ t. bit (t && f j)) (sym (leb-suc-zero j))
  occurs_passing j (suc n) =
      occurs_append j (passing f n) (one n) ∙ ap (λ k. k + occurs j (one n)) (occurs_passing j n) ∙ one_more j n

module _ (f g : ℕ → Bool) (d : ℕ) (less : (j : ℕ) → g j ≡ cond (eqb d j) false (f j)) where
  elsewhere : (j : ℕ) → (d ≡ j → ⊥) → g j ≡ f j
  elsewhere j u = less j ∙ cond-false _ _ _ (ne_eqb d j u)

  -- a test that passes at one number less
  pub passing_less : (n i : ℕ) → i < length (passing f n) → get_or (passing f n) i 0 ≡ d → passing g n ≡ remove (passing f n) i
  passing_less zero i l is = absurd (omega arith)
  passing_less (suc n) i l is =
      elim (place f n i l) [
        | inl k ↦
            (let here : get_or (passing f n) i 0 ≡ d = sym (place_early f n i k) ∙ is in
            let u : d ≡ n → ⊥ = λ e. omega (arith, passing_below f n i k) in
            ap (λ zs. zs ++ cond (g n) (n ∷ []) []) (passing_less n i k here)
            ∙ ap (λ t. remove (passing f n) i ++ cond t (n ∷ []) []) (elsewhere n u)
            ∙ sym (removed_front (passing f n) (cond (f n) (n ∷ []) []) i k))
        | inr k ↦
            (let last : n ≡ d = sym (place_last f n i k.0 k.1) ∙ is in
            let gone : g n ≡ false = less n ∙ cond-true _ _ _ (eq-eqb d n (sym last)) in
            ap (λ t. passing g n ++ cond t (n ∷ []) []) gone
            ∙ append-nil (passing g n)
            ∙ passing_same f g n (λ j m. elsewhere j (λ e. omega arith))
            ∙ sym (removed_last (passing f n) n)
            ∙ ap (remove (passing f n ++ n ∷ [])) (sym k.0)
            ∙ ap (λ t. remove (passing f n ++ cond t (n ∷ []) []) i) (sym k.1))
      ]
