-- Counting the numbers that pass a test, and the set bits of a word.
-- Assumes nothing.
use Rattle.std.specs.Prelude.{◌≡◌, ℕ, zero, suc, ◌+◌, ◌/◌, ◌^◌, ◌<◌, ◌≤◌, Bool, true, false, cond, length, ◌==◌, nat_eq, refl}
use Rattle.std.proofs.Common.{sym, ap, ap₂, ◌∙◌, pow-suc, arith}
use Rattle.std.specs.Int.Count.{ones, ones_step}
use Rattle.esop.specs.Kind.{Meaning, differs, differing_below}
use Rattle.esop.proofs.Differing.{differences, length_below}
use Rattle.cube.specs.Bit.{bit}
use Rattle.cube.specs.Positions.{count}
use Rattle.cube.specs.BitLaws.{bit_below, bit_zero, bit_suc, by_bit}

pub count_suc : (f : ℕ → Bool) (n : ℕ) → count f (suc n) ≡ count f n + cond (f n) 1 0
unfolding count
count_suc f n = refl

pub count_cong : (f g : ℕ → Bool) (n : ℕ) → ((i : ℕ) → i < n → f i ≡ g i) → count f n ≡ count g n
unfolding count
count_cong f g zero h = refl
count_cong f g (suc n) h = ap₂ (λ k t. k + cond t 1 0) (count_cong f g n (λ i l. h i (omega arith))) (h n (omega arith))

one_at_most : (t : Bool) → cond t 1 0 ≤ 1
one_at_most true = omega arith
one_at_most false = omega arith

pub count_le : (f : ℕ → Bool) (n : ℕ) → count f n ≤ n
unfolding count
count_le f zero = omega arith
count_le f (suc n) = let rest = count_le f n in let here = one_at_most (f n) in omega arith

-- counted from the other end
count_first : (f : ℕ → Bool) (n : ℕ) → count f (suc n) ≡ cond (f 0) 1 0 + count (λ i. f (suc i)) n
unfolding count
count_first f zero = omega arith
count_first f (suc n) = let rest = count_first f n in omega arith

ones_zero : ones 0 ≡ 0
unfolding ones
ones_zero = refl

-- whether a bit is set, as a number
set_bit : (b : ℕ) → b < 2 → b ≡ cond (b == 1) 1 0
set_bit b h = by_bit (λ b. b ≡ cond (b == 1) 1 0) refl refl b h

-- the set bits of a number of k bits
pub ones_count : (k n : ℕ) → n < 2 ^ k → ones n ≡ count (λ i. nat_eq (bit n i) 1) k
unfolding count
ones_count zero n h = let e : n ≡ 0 = omega arith in ap ones e ∙ ones_zero
ones_count (suc k) n h =
    let p = pow-suc 2 k in
    let first : cond (bit n 0 == 1) 1 0 ≡ bit n 0 = sym (set_bit (bit n 0) (bit_below n 0)) in
    let rest = ones_count k (n / 2) (omega arith) in
    let moved = count_cong (λ i. nat_eq (bit (n / 2) i) 1) (λ i. nat_eq (bit n (suc i)) 1) k (λ i l. ap (λ b. nat_eq b 1) (sym (bit_suc n i))) in
    ones_step n ∙ ap₂ (λ x y. x + y) (sym (bit_zero n) ∙ sym first) (rest ∙ moved) ∙ sym (count_first (λ i. nat_eq (bit n i) 1) k)

-- the positions at which two products of any kind differ
pub differing_count : {P : Type 0} (m : Meaning P) (a b : P) (n : ℕ) → length (differing_below m a b n) ≡ count (differs m a b) n
unfolding count
differing_count m a b n = length_below m a b n ∙ go n
  where
    go : (k : ℕ) → differences m a b k ≡ count (differs m a b) k
    go zero = refl
    go (suc k) = ap (λ l. l + cond (differs m a b k) 1 0) (go k)
