-- Moving the elements after a place up by one.
use Rattle.std.proofs.Common.{◌≡◌, ℕ, zero, suc, ◌+◌, ◌-◌, ◌<◌, ◌≤◌, List, [], ◌∷◌, ◌++◌, length, get_or, take, drop, sym, refl, ap, ◌∙◌, arith, length-drop, take-take, add-one}
use Rattle.std.specs.List.{remove, copy_within}
use Rattle.std.proofs.lemmas.List.Edits.{drop-paste, take-paste}
use Rattle.std.proofs.lemmas.List.{drop-take}

-- a place of a list holds something
pub some_at : {X : Type 0} (xs : List X) (i : ℕ) → i < length xs → (x : X) × (x ≡ get_or xs i x)
some_at [] i l = absurd (omega arith)
some_at (x ∷ xs) zero l = (x, refl)
some_at (x ∷ xs) (suc i) l = some_at xs i (omega arith)

-- the elements from place i + 1 up to place n are copied to those from place i on
module _ {X : Type 0} (xs : List X) (i n : ℕ) (below : i < n) (fits : n ≤ length xs) where
  abbrev shifted : List X
  shifted = copy_within xs (i + 1) n i

  tail_long : n - (i + 1) ≤ length (drop (i + 1) xs)
  tail_long = omega (arith, length-drop (i + 1) xs)

  last : n - 1 ≡ i + (n - (i + 1))
  last = omega arith

  pub shifted_used : take (n - 1) shifted ≡ remove (take n xs) i
  shifted_used =
      let all : n ≡ i + 1 + (n - (i + 1)) = omega arith in
      ap (λ k. take k shifted) last
      ∙ take-paste xs i (drop (i + 1) xs) (n - (i + 1)) (omega arith) tail_long
      ∙ ap (λ ys. ys ++ take (n - (i + 1)) (drop (i + 1) xs)) (sym (take-take i n xs (omega arith)))
      ∙ ap (λ ys. take i (take n xs) ++ ys) (sym (drop-take (i + 1) (n - (i + 1)) xs) ∙ ap (λ k. drop (i + 1) (take k xs)) (sym all))
      ∙ ap (λ k. take i (take n xs) ++ drop k (take n xs)) (add-one i)

  pub shifted_free : drop (n - 1) shifted ≡ drop (n - 1) xs
  shifted_free = rw last (drop-paste xs i (drop (i + 1) xs) (n - (i + 1)) (omega arith) tail_long)
