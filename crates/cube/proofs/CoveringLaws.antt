-- What a cube covers once an absent input is put into a form.
-- Assumes nothing.
use Rattle.std.proofs.Common.{◌≡◌, ℕ, zero, suc, ◌+◌, ◌*◌, ◌<◌, true, cond, ◌&&◌, eqb, ltb, sym, refl, ap, ◌∙◌, ap₂, arith}
use lib.Bits.{bit_or}
use Rattle.std.proofs.lemmas.Bool.{cond-true, cond-false, eq-eqb, ne_eqb, lt-ltb}
use Rattle.std.proofs.lemmas.Bool.Decides.{nat_tests}
use Rattle.esop.proofs.Everywhere.{everywhere_changed}
use Rattle.cube.specs.Bit.{bit}
use Rattle.cube.specs.Cubes.{form_of, words, formed, with_form}
use Rattle.cube.specs.Covering.{value_of, value, meets, covers}
use Rattle.cube.specs.declared.cube.Cube.{Cube}
use Rattle.cube.specs.declared.cube.Form.{Form}
use Rattle.cube.specs.declared.cube.Form.TheVariants.{Negative, Positive, Absent}
use Rattle.cube.specs.BitLaws.{bit_below, by_bit, with_bit_at, without_bit_at}
use Rattle.cube.specs.MakingLaws.{with_form_words, full_bit}

-- the value of an input in a form
abbrev pub form_value : Form → ℕ
form_value Negative = 1
form_value Positive = 2
form_value Absent = 3

pub absent_meets : (i x : ℕ) → i < 32 → meets i 3 x ≡ true
absent_meets i x lt =
    cond-true _ _ _ (lt-ltb i 32 lt) ∙ by_bit (λ b. eqb (bit 3 b) 1 ≡ true) refl refl (bit x i) (bit_below x i)

-- an input in a form, and the others as they were
formed_value : (z o u i j v a b : ℕ) → i < 32 → bit z j ≡ cond (eqb j i) a (bit v j) → bit o j ≡ cond (eqb j i) b (bit u j)
    → (r : ℕ) → cond (ltb j 32) (bit z j + 2 * bit o j) r ≡ cond (eqb j i) (a + 2 * b) (cond (ltb j 32) (bit v j + 2 * bit u j) r)
formed_value z o u i j v a b lt p q r = ap₂ (λ m n. cond (ltb j 32) (m + 2 * n) r) p q ∙ settled (bit v j) (bit u j)
  where
    settled : (m n : ℕ) → cond (ltb j 32) (cond (eqb j i) a m + 2 * cond (eqb j i) b n) r ≡ cond (eqb j i) (a + 2 * b) (cond (ltb j 32) (m + 2 * n) r)
    settled m n = grind (arith, nat_tests)

pub form_at_index : (c : Cube) (i j : ℕ) (f : Form) → i < 32 → value (with_form c i f) j ≡ cond (eqb j i) (form_value f) (value c j)
form_at_index c i j f lt = ap (λ w. value_of w j) (with_form_words c i f lt) ∙ go f
  where
    go : (g : Form) → value_of (formed (words c) i g) j ≡ cond (eqb j i) (form_value g) (value c j)
    go Negative = formed_value _ _ c.ones i j c.zeros 1 0 lt (with_bit_at c.zeros i j) (without_bit_at c.ones i j) _
    go Positive = formed_value _ _ c.ones i j c.zeros 0 1 lt (without_bit_at c.zeros i j) (with_bit_at c.ones i j) _
    go Absent = formed_value _ _ c.ones i j c.zeros 1 1 lt (with_bit_at c.zeros i j) (with_bit_at c.ones i j) _

-- the cube with an absent input in a form covers, of its points, those that agree at this input
pub form_covers : (c : Cube) (i x : ℕ) (f : Form) → i < 32 → value c i ≡ 3 → covers (with_form c i f) x ≡ (covers c x && meets i (form_value f) x)
form_covers c i x f lt absent =
    everywhere_changed (λ j. meets j (value c j) x) (λ j. meets j (value (with_form c i f) j) x) i 33 (omega arith)
    (ap (λ v. meets i v x) absent ∙ absent_meets i x lt)
    (λ j ne. ap (λ v. meets j v x) (form_at_index c i j f lt ∙ cond-false _ _ _ (ne_eqb j i ne)))
    ∙ ap (λ v. covers c x && meets i v x) (form_at_index c i i f lt ∙ cond-true _ _ _ (eq-eqb i i refl))

-- the value at an input says its form
pub value_form : (c : Cube) (i : ℕ) → i < 32 → value c i ≡ form_value (form_of c i)
value_form c i lt =
    cond-true _ _ _ (lt-ltb i 32 lt)
    ∙ go (bit c.zeros i) (bit c.ones i) (bit_below c.zeros i) (bit_below c.ones i) (full_bit c.zeros c.ones i c.full lt)
    ∙ ap form_value (sym (cond-true _ _ _ (lt-ltb i 32 lt)))
  where
    go : (z o : ℕ) → z < 2 → o < 2 → bit_or z o ≡ 1 → z + 2 * o ≡ form_value (cond (eqb z 1) (cond (eqb o 1) Absent Negative) Positive)
    go zero zero p q h = absurd (omega arith)
    go zero (suc zero) p q h = refl
    go (suc zero) zero p q h = refl
    go (suc zero) (suc zero) p q h = refl
    go zero (suc (suc o)) p q h = absurd (omega arith)
    go (suc zero) (suc (suc o)) p q h = absurd (omega arith)
    go (suc (suc z)) o p q h = absurd (omega arith)
