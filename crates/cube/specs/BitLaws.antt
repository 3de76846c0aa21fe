-- Laws of the bits of a number, for every width.
-- Assumes nothing.
use Rattle.std.specs.Prelude.{◌≡◌, ℕ, zero, suc, ◌+◌, ◌-◌, ◌*◌, ◌/◌, ◌%◌, ◌^◌, ◌<◌, ◌≤◌, cond, ◌==◌, ◌≢◌, refl}
use Rattle.std.proofs.Common.{sym, ap, ap₂, ◌∙◌, ⊎_elim, lt_of_le_of_lt, arith}
use Rattle.std.specs.Int.Bits.{bit_and, bit_or, bit_xor, and_zero_r, xor_zero_r, xor_self, xor_assoc}
use Rattle.std.proofs.lemmas.Nat.{and_shr, or_shr, xor_shr, and_mod, or_mod, xor_mod, and_le_l, or_lt, xor_lt, xor_block}
use Rattle.std.proofs.lemmas.Nat.Bits.{bit_at-lt, bit_at_lowest, bit_at-suc, bit_at-pow_same, bit_at-pow_other, bit_at_ones, same_from_bits_below}
use Rattle.std.proofs.Math.Pow.{pow-lt}
use Rattle.std.proofs.lemmas.Bool.{cases_eq, cases_lt, cond-true, cond-false, eq-eqb, ne_eqb}
use Rattle.cube.specs.Bit.{bit, with_bit, without_bit, chosen}

pub bit_below : (n i : ℕ) → bit n i < 2
bit_below = bit_at-lt

pub bit_of_and : (a b i : ℕ) → bit (bit_and a b) i ≡ bit_and (bit a i) (bit b i)
bit_of_and a b i = ap (λ (n : ℕ). n % 2) (and_shr a b i) ∙ and_mod (a / 2 ^ i) (b / 2 ^ i) 1

pub bit_of_or : (a b i : ℕ) → bit (bit_or a b) i ≡ bit_or (bit a i) (bit b i)
bit_of_or a b i = ap (λ (n : ℕ). n % 2) (or_shr a b i) ∙ or_mod (a / 2 ^ i) (b / 2 ^ i) 1

pub bit_of_xor : (a b i : ℕ) → bit (bit_xor a b) i ≡ bit_xor (bit a i) (bit b i)
bit_of_xor a b i = ap (λ (n : ℕ). n % 2) (xor_shr a b i) ∙ xor_mod (a / 2 ^ i) (b / 2 ^ i) 1

pub bit_suc : (n i : ℕ) → bit n (suc i) ≡ bit (n / 2) i
bit_suc = bit_at-suc

pub bit_zero : (n : ℕ) → bit n 0 ≡ n % 2
bit_zero = bit_at_lowest

-- numbers of k bits with the same bits are equal
pub bits_same : (k a b : ℕ) → a < 2 ^ k → b < 2 ^ k → ((i : ℕ) → i < k → bit a i ≡ bit b i) → a ≡ b
bits_same = same_from_bits_below

-- the k low bits set
pub bit_mask : (k i : ℕ) → i < k → bit (2 ^ k - 1) i ≡ 1
bit_mask = bit_at_ones

pub by_bit : (P : ℕ → Type 0) → P 0 → P 1 → (n : ℕ) → n < 2 → P n
by_bit P p q zero h = p
by_bit P p q (suc zero) h = q
by_bit P p q (suc (suc n)) h = absurd (omega arith)

pub by_bits : (P : ℕ → ℕ → Type 0) → P 0 0 → P 0 1 → P 1 0 → P 1 1 → (m n : ℕ) → m < 2 → n < 2 → P m n
by_bits P p q r s m n hm hn = by_bit (λ x. P x n) (by_bit (P 0) p q n hn) (by_bit (P 1) r s n hn) m hm

pub with_bit_at : (n i j : ℕ) → bit (with_bit n i) j ≡ cond (j == i) 1 (bit n j)
with_bit_at n i j =
    bit_of_or n (2 ^ i) j
    ∙ ⊎_elim
    (λ (e : j ≡ i).
    ap (bit_or (bit n j)) (ap (λ m. bit (2 ^ m) j) (sym e) ∙ bit_at-pow_same j)
    ∙ by_bit (λ x. bit_or x 1 ≡ 1) refl refl (bit n j) (bit_below n j) ∙ sym (cond-true _ _ _ (eq-eqb j i e)))
    (λ ne.
    ap (bit_or (bit n j)) (bit_at-pow_other i j ne)
    ∙ by_bit (λ x. bit_or x 0 ≡ x) refl refl (bit n j) (bit_below n j) ∙ sym (cond-false _ _ _ (ne_eqb j i ne)))
    (cases_eq j i)

pub without_bit_at : (n i j : ℕ) → bit (without_bit n i) j ≡ cond (j == i) 0 (bit n j)
without_bit_at n i j =
    bit_of_xor (with_bit n i) (2 ^ i) j ∙ ap (λ m. bit_xor m (bit (2 ^ i) j)) (with_bit_at n i j)
    ∙ ⊎_elim
    (λ (e : j ≡ i).
    ap₂ bit_xor (cond-true _ _ _ (eq-eqb j i e)) (ap (λ m. bit (2 ^ m) j) (sym e) ∙ bit_at-pow_same j)
    ∙ sym (cond-true _ _ _ (eq-eqb j i e)))
    (λ ne.
    ap₂ bit_xor (cond-false _ _ _ (ne_eqb j i ne)) (bit_at-pow_other i j ne)
    ∙ by_bit (λ x. bit_xor x 0 ≡ x) refl refl (bit n j) (bit_below n j) ∙ sym (cond-false _ _ _ (ne_eqb j i ne)))
    (cases_eq j i)

pub with_bit_lt : (k n i : ℕ) → n < 2 ^ k → i < k → with_bit n i < 2 ^ k
with_bit_lt k n i h l = or_lt k n (2 ^ i) h (pow-lt l)

pub without_bit_lt : (k n i : ℕ) → n < 2 ^ k → i < k → without_bit n i < 2 ^ k
without_bit_lt k n i h l = xor_lt k _ _ (with_bit_lt k n i h l) (pow-lt l)

pub chosen_bit : (a b m j : ℕ) → bit (chosen a b m) j ≡ chosen (bit a j) (bit b j) (bit m j)
chosen_bit a b m j =
    bit_of_xor a _ j ∙ ap (bit_xor (bit a j)) (bit_of_and (bit_xor a b) m j ∙ ap (λ n. bit_and n (bit m j)) (bit_of_xor a b j))

-- bit i of b, and every other of a
pub chosen_at : (a b i j : ℕ) → bit (chosen a b (2 ^ i)) j ≡ cond (i == j) (bit b j) (bit a j)
chosen_at a b i j =
    chosen_bit a b (2 ^ i) j
    ∙ ⊎_elim
    (λ (e : i ≡ j).
    ap (chosen (bit a j) (bit b j)) (ap (λ m. bit (2 ^ m) j) e ∙ bit_at-pow_same j)
    ∙ by_bits (λ x y. chosen x y 1 ≡ y) refl refl refl refl (bit a j) (bit b j) (bit_below a j) (bit_below b j)
    ∙ sym (cond-true _ _ _ (eq-eqb i j e)))
    (λ ne.
    ap (chosen (bit a j) (bit b j)) (bit_at-pow_other i j (λ e. ne (sym e)))
    ∙ ap (bit_xor (bit a j)) (and_zero_r _) ∙ xor_zero_r _ ∙ sym (cond-false _ _ _ (ne_eqb i j ne)))
    (cases_eq i j)

pub chosen_lt : (k a b m : ℕ) → a < 2 ^ k → b < 2 ^ k → chosen a b m < 2 ^ k
chosen_lt k a b m p q = xor_lt k a _ p (lt_of_le_of_lt (and_le_l _ m) (xor_lt k a b p q))

-- exclusive or of numbers with s and t for their lowest bits
pub xor_low : (s t u v : ℕ) → s < 2 → t < 2 → bit_xor (s + 2 * u) (t + 2 * v) ≡ bit_xor s t + 2 * bit_xor u v
xor_low s t u v hs ht =
    let p : s + 2 * u ≡ u * 2 ^ 1 + s = omega arith in
    let q : t + 2 * v ≡ v * 2 ^ 1 + t = omega arith in
    ap₂ bit_xor p q ∙ xor_block 1 u v s t hs ht ∙ omega arith

-- numbers whose exclusive or is 0 are equal
xor_same : (a b : ℕ) → bit_xor a b ≡ 0 → a ≡ b
xor_same a b h = sym (xor_zero_r a) ∙ ap (bit_xor a) (sym (xor_self b)) ∙ sym (xor_assoc a b b) ∙ ap (λ n. bit_xor n b) h

pub xor_some : (a b : ℕ) → (a ≢ b) → 0 < bit_xor a b
xor_some a b ne = ⊎_elim (λ h. h) (λ (h : bit_xor a b ≤ 0). absurd (ne (xor_same a b (omega arith)))) (cases_lt 0 (bit_xor a b))
