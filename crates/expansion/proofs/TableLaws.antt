-- Tables, their halves, and parts that are lent and given back.
-- Assumes nothing.
use Rattle.std.proofs.Common.{◌≡◌, ◌≢◌, Bool, Option, eqb, subst, ℕ, zero, suc, ◌+◌, ◌-◌, ◌/◌, ◌^◌, ◌<◌, ◌≤◌, true, false, ltb, List, [], ◌∷◌, ◌++◌, length, get_or, take, drop, Some, None, sym, refl, ap, ◌∙◌, ap₂, ⊎_elim, pow-suc, arith, pow_mono}
use lib.Count.{ones, count_trailing_zeros}
use lib.Bits.{bit_xor, xor_assoc, xor_self, xor_zero_r}
use borrow.Rule.Slice.PartMut.{put_mid}
use Rattle.std.proofs.lemmas.List.{length-take-le, length-drop, length-append, take_at, drop_at, ext_get_or, take-append-drop, take_rest}
use Rattle.std.proofs.lemmas.Bool.{eqb-true, false≢true, cases_eq, and_parts, ltb-true, cond-true, cond-false, eq-eqb, ne_eqb}
use Rattle.esop.specs.Positionwise.{everywhere}
use Rattle.esop.proofs.Everywhere.{everywhere_at}
use Rattle.expansion.specs.Tables.{binary, exponent_below, inputs_of, mixed, folded}

pub length_mixed : (xs ys : List ℕ) → length (mixed xs ys) ≡ length xs
length_mixed [] ys = refl
length_mixed (x ∷ xs) [] = refl
length_mixed (x ∷ xs) (y ∷ ys) = ap suc (length_mixed xs ys)

pub get_d_mixed : (xs ys : List ℕ) (k : ℕ) → k < length xs → length xs ≡ length ys → get_or (mixed xs ys) k 0 ≡ bit_xor (get_or xs k 0) (get_or ys k 0)
get_d_mixed [] ys k h e = absurd (omega arith)
get_d_mixed (x ∷ xs) [] k h e = absurd (omega arith)
get_d_mixed (x ∷ xs) (y ∷ ys) zero h e = refl
get_d_mixed (x ∷ xs) (y ∷ ys) (suc k) h e = get_d_mixed xs ys k (omega arith) (omega arith)

pub mixed_twice : (xs ys : List ℕ) → mixed (mixed xs ys) ys ≡ xs
mixed_twice [] ys = refl
mixed_twice (x ∷ xs) [] = refl
mixed_twice (x ∷ xs) (y ∷ ys) = ap₂ ◌∷◌ (xor_assoc x y y ∙ ap (bit_xor x) (xor_self y) ∙ xor_zero_r x) (mixed_twice xs ys)

-- exclusive or, by the places
pub mixed_from : (xs ys zs : List ℕ) → length ys ≡ length xs → length zs ≡ length xs
    → ((k : ℕ) → k < length xs → get_or zs k 0 ≡ bit_xor (get_or xs k 0) (get_or ys k 0)) → zs ≡ mixed xs ys
mixed_from xs ys zs e l at =
    let m = length_mixed xs ys in
    ext_get_or 0 zs (mixed xs ys) (omega arith) (λ k h. at k (omega arith) ∙ sym (get_d_mixed xs ys k (omega arith) (sym e)))

-- a part that holds what it held goes back to its place unchanged
pub part_back : (a n : ℕ) (xs ys : List ℕ) → ys ≡ take n (drop a xs) → put_mid a n xs ys ≡ xs
part_back a n xs ys e =
    ap (λ l. take a xs ++ (l ++ drop n (drop a xs))) e ∙ ap (λ l. take a xs ++ l) (take-append-drop n (drop a xs)) ∙ take-append-drop a xs

-- a table of two halves of h bytes
module _ (h : ℕ) (t : List ℕ) (two : h + h ≡ length t) where
  pub low_length : length (take h t) ≡ h
  low_length = length-take-le h t (omega arith)

  pub high_length : length (drop h t) ≡ h
  high_length = length-drop h t ∙ omega arith

  pub sum_length : length (mixed (drop h t) (take h t)) ≡ h
  sum_length = length_mixed (drop h t) (take h t) ∙ high_length

  pub folded_length : length (folded h t) ≡ length t
  folded_length = length-append (take h t) _ ∙ ap₂ ◌+◌ low_length sum_length ∙ two

  low_folded : take h (folded h t) ≡ take h t
  low_folded = take_at (take h t) _ _ low_length

  pub high_folded : drop h (folded h t) ≡ mixed (drop h t) (take h t)
  high_folded = drop_at (take h t) _ _ low_length

  pub folded_twice : folded h (folded h t) ≡ t
  folded_twice =
      ap₂ (λ x y. x ++ mixed y x) low_folded high_folded ∙ ap (λ y. take h t ++ y) (mixed_twice (drop h t) (take h t))
      ∙ take-append-drop h t

pub upper : (h : ℕ) (t : List ℕ) → take (length t - h) (drop h t) ≡ drop h t
upper h t = take_rest t h

-- half of 2 ^ k bytes
pub half_is : (k n : ℕ) → (k ≡ 0 → ⊥) → n ≡ 2 ^ k → n / 2 ≡ 2 ^ (k - 1)
half_is zero n nz e = absurd (nz refl)
half_is (suc k) n nz e =
    let p = pow-suc 2 k in
    let q : suc k - 1 ≡ k = omega arith in
    let r : 2 ^ (suc k - 1) ≡ 2 ^ k = ap (λ m. 2 ^ m) q in
    omega arith

pub two_halves : (k n : ℕ) → (k ≡ 0 → ⊥) → n ≡ 2 ^ k → n / 2 + n / 2 ≡ n
two_halves zero n nz e = absurd (nz refl)
two_halves (suc k) n nz e = let p = pow-suc 2 k in omega arith

pub binary_at : (t : List ℕ) → binary t ≡ true → (i : ℕ) → i < length t → get_or t i 0 < 2
binary_at [] h i l = absurd (omega arith)
binary_at (b ∷ t) h zero l = ltb-true b 2 (and_parts (ltb b 2) (binary t) h).0
binary_at (b ∷ t) h (suc i) l = binary_at t (and_parts (ltb b 2) (binary t) h).1 i (omega arith)

-- an exponent that is found is one, and below the bound
pub exponent_found : (b n k : ℕ) → exponent_below b n ≡ Some k → (k < b) × (n ≡ 2 ^ k)
unfolding exponent_below
exponent_found zero n k h = absurd (let z : ◌≡◌ {A = ℕ} 0 1 = cc in omega arith)
exponent_found (suc b) n k h =
    ⊎_elim
    (λ (e : n ≡ 2 ^ b).
    let s : Some b ≡ Some k = sym (cond-true _ _ _ (eq-eqb n (2 ^ b) e)) ∙ h in
    let q : b ≡ k = cc in (omega arith, e ∙ ap (λ m. 2 ^ m) q))
    (λ ne.
    let r = exponent_found b n k (sym (cond-false _ _ _ (ne_eqb n (2 ^ b) ne)) ∙ h) in
    (let l = r.0 in omega arith, r.1))
    (cases_eq n (2 ^ b))

-- a table longer than 2 ^ 10 bytes has no number of inputs
exponent_past : (b n : ℕ) → ((k : ℕ) → k < b → 2 ^ k < n) → exponent_below b n ≡ None
unfolding exponent_below
exponent_past zero n l = refl
exponent_past (suc b) n l =
    let s = l b (omega arith) in
    cond-false _ _ _ (ne_eqb n (2 ^ b) (λ e. omega arith)) ∙ exponent_past b n (λ k r. l k (omega arith))

pub inputs_past : (n : ℕ) → 1024 < n → inputs_of n ≡ None
inputs_past n h =
    exponent_past 11 n (λ k l. let m : k ≤ 10 = omega arith in let p : 2 ^ k ≤ 2 ^ 10 = pow_mono m in omega arith)

-- a shorter one, by a look at each length: the exponent is the number of zeros behind the one bit
matches : Bool → Option ℕ → ℕ → Bool
matches true None e = false
matches true (Some k) e = eqb k e
matches false None e = true
matches false (Some k) e = false

matches_some : (o : Option ℕ) (e : ℕ) → matches true o e ≡ true → o ≡ Some e
unfolding matches
matches_some None e h = absurd (false≢true h)
matches_some (Some k) e h = ap Some (eqb-true k e h)

matches_none : (o : Option ℕ) (e : ℕ) → matches false o e ≡ true → o ≡ None
unfolding matches
matches_none None e h = refl
matches_none (Some k) e h = absurd (false≢true h)

looked_at : ℕ → Bool
looked_at n = matches (eqb (ones n) 1) (exponent_below 11 n) (count_trailing_zeros 64 n)

all_looked_at : everywhere looked_at 1025 ≡ true
unfolding everywhere looked_at matches exponent_below ones count_trailing_zeros
all_looked_at = refl

pub inputs_some : (n : ℕ) → n ≤ 1024 → ones n ≡ 1 → inputs_of n ≡ Some (count_trailing_zeros 64 n)
unfolding looked_at
inputs_some n l one =
    matches_some (exponent_below 11 n) (count_trailing_zeros 64 n)
    (subst (λ t. matches t (exponent_below 11 n) (count_trailing_zeros 64 n) ≡ true) (eq-eqb (ones n) 1 one) (everywhere_at looked_at 1025 n (omega arith) all_looked_at))

pub inputs_none : (n : ℕ) → n ≤ 1024 → (ones n ≢ 1) → inputs_of n ≡ None
unfolding looked_at
inputs_none n l other =
    matches_none (exponent_below 11 n) (count_trailing_zeros 64 n)
    (subst (λ t. matches t (exponent_below 11 n) (count_trailing_zeros 64 n) ≡ true) (ne_eqb (ones n) 1 other) (everywhere_at looked_at 1025 n (omega arith) all_looked_at))
