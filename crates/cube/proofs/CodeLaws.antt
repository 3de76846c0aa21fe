-- What the words that the code computes say of the positions.
-- Assumes nothing.
use Rattle.std.proofs.Common.{◌≡◌, ◌≢◌, ℕ, ◌+◌, ◌-◌, ◌*◌, ◌/◌, ◌^◌, ◌<◌, Bool, true, false, cond, not, ◌&&◌, eqb, sym, refl, ap, ◌∙◌, ap₂, arith, pow_pos}
use lib.Bits.{bit_and, bit_or, bit_xor, or_lt, xor_lt}
use lib.Count.{ones}
use Rattle.std.proofs.lemmas.Bool.{cond-true, lt-ltb, eq-eqb, ne_eqb, eqb-true, and_left}
use Rattle.esop.specs.Kind.{distance}
use Rattle.esop.specs.Positionwise.{everywhere}
use Rattle.esop.proofs.Everywhere.{everywhere_same, everywhere_suc, everywhere_all, everywhere_at}
use Rattle.cube.specs.Bit.{bit, chosen}
use Rattle.cube.specs.Cubes.{driven}
use Rattle.cube.specs.Covering.{value, meets, covers}
use Rattle.cube.specs.Positions.{unlike, present_inputs, cubes}
use Rattle.cube.specs.declared.cube.Cube.{Cube}
use Rattle.cube.specs.BitLaws.{bit_below, bit_of_and, bit_of_or, bit_of_xor, bit_mask, bits_same, by_bit, by_bits, chosen_bit, chosen_lt}
use Rattle.cube.specs.MakingLaws.{full_bit, inputs_lt}
use Rattle.cube.specs.CountLaws.{count_suc, count_cong, ones_count, differing_count}

-- the value of an input, as its two bits
value_in : (c : Cube) (i : ℕ) → i < 32 → value c i ≡ bit c.zeros i + 2 * bit c.ones i
value_in c i l = cond-true _ _ _ (lt-ltb i 32 l)

-- two values x + 2 v and y + 2 w
unlike_bits : (v w x y : ℕ) → v < 2 → w < 2 → x < 2 → y < 2 → eqb (bit_or (bit_xor x y) (bit_xor v w)) 1 ≡ not (eqb (x + 2 * v) (y + 2 * w))
unlike_bits v w x y hv hw hx hy =
    by_bits (λ v w. eqb (bit_or (bit_xor x y) (bit_xor v w)) 1 ≡ not (eqb (x + 2 * v) (y + 2 * w)))
    (by_bits (λ x y. eqb (bit_or (bit_xor x y) (bit_xor 0 0)) 1 ≡ not (eqb (x + 2 * 0) (y + 2 * 0))) refl refl refl refl x y hx hy)
    (by_bits (λ x y. eqb (bit_or (bit_xor x y) (bit_xor 0 1)) 1 ≡ not (eqb (x + 2 * 0) (y + 2 * 1))) refl refl refl refl x y hx hy)
    (by_bits (λ x y. eqb (bit_or (bit_xor x y) (bit_xor 1 0)) 1 ≡ not (eqb (x + 2 * 1) (y + 2 * 0))) refl refl refl refl x y hx hy)
    (by_bits (λ x y. eqb (bit_or (bit_xor x y) (bit_xor 1 1)) 1 ≡ not (eqb (x + 2 * 1) (y + 2 * 1))) refl refl refl refl x y hx hy)
    v w hv hw

-- the word of the inputs at which two cubes differ
abbrev pub unlike_word : Cube → Cube → ℕ
unlike_word a b = bit_or (bit_xor a.zeros b.zeros) (bit_xor a.ones b.ones)

pub unlike_bit : (a b : Cube) (i : ℕ) → i < 32 → eqb (bit (unlike_word a b) i) 1 ≡ unlike a b i
unlike_bit a b i l =
    ap (λ n. eqb n 1) (bit_of_or _ _ i ∙ ap₂ bit_or (bit_of_xor a.zeros b.zeros i) (bit_of_xor a.ones b.ones i))
    ∙ unlike_bits _ _ _ _ (bit_below a.ones i) (bit_below b.ones i) (bit_below a.zeros i) (bit_below b.zeros i)
    ∙ ap₂ (λ m n. not (eqb m n)) (sym (value_in a i l)) (sym (value_in b i l))
    ∙ ap (λ t. t && not (eqb (value a i) (value b i))) (sym (lt-ltb i 33 (omega arith)))

unlike_lt : (a b : Cube) → unlike_word a b < 2 ^ 32
unlike_lt a b =
    or_lt 32 (bit_xor a.zeros b.zeros) (bit_xor a.ones b.ones)
    (xor_lt 32 a.zeros b.zeros (inputs_lt a).0 (inputs_lt b).0) (xor_lt 32 a.ones b.ones (inputs_lt a).1 (inputs_lt b).1)

counted_not : (t : Bool) → ◌≡◌ {A = ℕ} (cond (not t) 1 0) (cond t 0 1)
counted_not true = refl
counted_not false = refl

pub distance_is : (a b : Cube) → ones (unlike_word a b) + cond (eqb a.outputs b.outputs) 0 1 ≡ distance cubes a b
distance_is a b =
    ap₂ (λ m n. m + n)
    (ones_count 32 (unlike_word a b) (unlike_lt a b) ∙ count_cong (λ i. eqb (bit (unlike_word a b) i) 1) (unlike a b) 32 (unlike_bit a b))
    (sym (counted_not (eqb a.outputs b.outputs)))
    ∙ sym (count_suc (unlike a b) 32) ∙ sym (differing_count cubes a b 33)

-- an input is present where exactly one of its bits is set
present_bits : (x y : ℕ) → x < 2 → y < 2 → bit_or x y ≡ 1 → eqb (bit_xor x y) 1 ≡ not (eqb (x + 2 * y) 3)
present_bits = by_bits (λ x y. bit_or x y ≡ 1 → eqb (bit_xor x y) 1 ≡ not (eqb (x + 2 * y) 3)) (λ h. absurd (omega arith)) (λ _. refl) (λ _. refl) (λ _. refl)

pub present_is : (c : Cube) → ones (bit_xor c.zeros c.ones) ≡ present_inputs c
present_is c =
    ones_count 32 (bit_xor c.zeros c.ones) (xor_lt 32 c.zeros c.ones (inputs_lt c).0 (inputs_lt c).1)
    ∙ count_cong (λ i. eqb (bit (bit_xor c.zeros c.ones) i) 1) (λ i. not (eqb (value c i) 3)) 32
    (λ i l. ap (λ n. eqb n 1) (bit_of_xor c.zeros c.ones i)
    ∙ present_bits _ _ (bit_below c.zeros i) (bit_below c.ones i) (full_bit c.zeros c.ones i c.full l)
    ∙ ap (λ n. not (eqb n 3)) (sym (value_in c i l)))

pub same_tests : (s t : Bool) → (s ≡ true → t ≡ true) → (t ≡ true → s ≡ true) → s ≡ t
same_tests true true p q = refl
same_tests true false p q = sym (p refl)
same_tests false true p q = q refl
same_tests false false p q = refl

-- a number of k bits has them all set exactly where it is the greatest
all_set : (k n : ℕ) → n < 2 ^ k → eqb n (2 ^ k - 1) ≡ everywhere (λ i. eqb (bit n i) 1) k
all_set k n h =
    same_tests _ _
    (λ e. everywhere_all (λ i. eqb (bit n i) 1) k (λ i l. eq-eqb _ _ (ap (λ m. bit m i) (eqb-true _ _ e) ∙ bit_mask k i l)))
    (λ e. eq-eqb _ _
    (bits_same k n (2 ^ k - 1) h (let p = pow_pos k in omega arith)
    (λ i l. eqb-true _ _ (everywhere_at (λ i. eqb (bit n i) 1) k i l e) ∙ sym (bit_mask k i l))))

-- bit p of a value is that of the word which p chooses
agreeing_bits : (p x y : ℕ) → p < 2 → x < 2 → y < 2 → eqb (chosen x y p) 1 ≡ eqb (bit (x + 2 * y) p) 1
agreeing_bits p x y hp hx hy =
    by_bit (λ p. eqb (chosen x y p) 1 ≡ eqb (bit (x + 2 * y) p) 1)
    (by_bits (λ x y. eqb (chosen x y 0) 1 ≡ eqb (bit (x + 2 * y) 0) 1) refl refl refl refl x y hx hy)
    (by_bits (λ x y. eqb (chosen x y 1) 1 ≡ eqb (bit (x + 2 * y) 1) 1) refl refl refl refl x y hx hy)
    p hp

-- the inputs of a point
pattern_bit : (x i : ℕ) → i < 32 → bit (bit_and x 4294967295) i ≡ bit x i
pattern_bit x i l =
    bit_of_and x 4294967295 i ∙ ap (bit_and (bit x i)) (bit_mask 32 i l) ∙ by_bit (λ b. bit_and b 1 ≡ b) refl refl (bit x i) (bit_below x i)

-- the word of the inputs that may be as they are in a point
abbrev pub agreeing_word : Cube → ℕ → ℕ
agreeing_word c x = chosen c.zeros c.ones (bit_and x 4294967295)

agreeing_bit : (c : Cube) (x i : ℕ) → i < 32 → eqb (bit (agreeing_word c x) i) 1 ≡ meets i (value c i) x
agreeing_bit c x i l =
    ap (λ n. eqb n 1) (chosen_bit c.zeros c.ones _ i ∙ ap (chosen (bit c.zeros i) (bit c.ones i)) (pattern_bit x i l))
    ∙ agreeing_bits (bit x i) _ _ (bit_below x i) (bit_below c.zeros i) (bit_below c.ones i)
    ∙ ap (λ v. eqb (bit v (bit x i)) 1) (sym (value_in c i l)) ∙ sym (cond-true _ _ _ (lt-ltb i 32 l))

pub covers_is : (c : Cube) (x : ℕ) → (eqb (agreeing_word c x) 4294967295 && driven c (x / 2 ^ 32)) ≡ covers c x
covers_is c x =
    ap (λ t. t && driven c (x / 2 ^ 32))
    (all_set 32 (agreeing_word c x) (chosen_lt 32 c.zeros c.ones (bit_and x 4294967295) (inputs_lt c).0 (inputs_lt c).1)
    ∙ everywhere_same (λ i. eqb (bit (agreeing_word c x) i) 1) (λ i. meets i (value c i) x) 32 (agreeing_bit c x))
    ∙ sym (everywhere_suc (λ i. meets i (value c i) x) 32)

-- where every input agrees, the output decides; and where one does not, nothing is covered
pub covers_agreeing : (c : Cube) (x : ℕ) → agreeing_word c x ≡ 4294967295 → driven c (x / 2 ^ 32) ≡ covers c x
covers_agreeing c x e = ap (λ t. t && driven c (x / 2 ^ 32)) (sym (eq-eqb (agreeing_word c x) 4294967295 e)) ∙ covers_is c x

pub covers_not : (c : Cube) (x w : ℕ) → w ≡ agreeing_word c x → (w ≢ 4294967295) → eqb w 4294967295 ≡ covers c x
covers_not c x w e ne =
    ap (λ n. eqb n 4294967295) e ∙ no ∙ sym (and_left _ (driven c (x / 2 ^ 32)) no) ∙ covers_is c x
  where
    no : eqb (agreeing_word c x) 4294967295 ≡ false
    no = ne_eqb (agreeing_word c x) 4294967295 (λ f. ne (e ∙ f))
