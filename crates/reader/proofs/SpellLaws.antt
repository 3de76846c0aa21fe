-- A row spells its product: its characters are those of the words that are read from it.
-- Assumes nothing.
use Rattle.std.proofs.Common.{◌≡◌, ℕ, zero, suc, ◌+◌, ◌-◌, ◌*◌, ◌/◌, ◌%◌, ◌^◌, ◌<◌, ◌≤◌, cond, ◌&&◌, eqb, List, [], ◌∷◌, ◌++◌, length, Some, None, Option, sym, refl, ap, ◌∙◌, ap₂, div-lt_iff_lt-mul, pow-suc, arith, lit<, pow_pos, pow-add}
use Rattle.std.proofs.Math.Nat.{div-eq_of_lt}
use Rattle.std.proofs.Math.Pow.{pow_mono}
use native.Mathlib.Nat.{div-div-eq-div-mul}
use lib.Bits.{bit_or}
use Rattle.std.proofs.lemmas.Bool.{cond-true, cond_both, lt-ltb, eqb-true}
use Rattle.cube.specs.Bit.{bit}
use Rattle.cube.specs.declared.cube.Cube.{Cube}
use Rattle.cube.specs.declared.cube.Form.{Form}
use Rattle.cube.specs.declared.cube.Form.TheVariants.{Negative, Positive, Absent}
use Rattle.cube.specs.BitLaws.{bit_below, bit_suc, bit_zero, by_bit, by_bits, bits_same}
use Rattle.sheet.specs.Text.{form_char, driven_char, chars, input_chars, output_chars}
use Rattle.reader.specs.Rows.{form_bits, driven_bit, under, below, forms_over, driven_word}

-- the characters of two words, and of one
abbrev pub form_at : ℕ → ℕ → Form
form_at a b = cond (eqb a 1) (cond (eqb b 1) Absent Negative) Positive

abbrev pub forms_char : ℕ → ℕ → ℕ → ℕ
forms_char z o j = form_char (form_at (bit z j) (bit o j))

abbrev pub word_char : ℕ → ℕ → ℕ
word_char u j = driven_char (eqb (bit u j) 1)

-- characters from the first on
pub chars_front : (f : ℕ → ℕ) (n : ℕ) → chars f (suc n) ≡ f 0 ∷ chars (λ j. f (suc j)) n
unfolding chars
chars_front f zero = refl
chars_front f (suc n) = ap (λ x. x ++ f (suc n) ∷ []) (chars_front f n)

pub chars_same : (f g : ℕ → ℕ) (n : ℕ) → ((j : ℕ) → j < n → f j ≡ g j) → chars f n ≡ chars g n
unfolding chars
chars_same f g zero h = refl
chars_same f g (suc n) h = ap₂ (λ x c. x ++ c ∷ []) (chars_same f g n (λ j l. h j (omega arith))) (h n (omega arith))

-- the lowest bit of a word, and the others
low : (b v : ℕ) → b < 2 → bit (b + 2 * v) 0 ≡ b
low b v h = bit_zero (b + 2 * v) ∙ omega arith

high : (b v j : ℕ) → b < 2 → bit (b + 2 * v) (suc j) ≡ bit v j
high b v j h = let e : (b + 2 * v) / 2 ≡ v = omega arith in bit_suc (b + 2 * v) j ∙ ap (λ n. bit n j) e

-- what is read from characters has those characters, and past them the bits of h
abbrev FormIs : ℕ → Option (ℕ × ℕ) → Type 0
FormIs c None = Unit {0}
FormIs c (Some f) = (f.0 < 2) × (f.1 < 2) × (form_char (form_at f.0 f.1) ≡ c)

form_is : (c : ℕ) → FormIs c (form_bits c)
form_is c =
    cond_both (eqb c 48) _ _ (FormIs c) (λ e. (omega arith, omega arith, sym (eqb-true c 48 e)))
    (λ _. cond_both (eqb c 49) _ _ (FormIs c) (λ e. (omega arith, omega arith, sym (eqb-true c 49 e)))
    (λ _. cond_both (eqb c 45) _ _ (FormIs c) (λ e. (omega arith, omega arith, sym (eqb-true c 45 e))) (λ _. tt)))

pub record FormsAre (h : ℕ) (cs : List ℕ) (z o : ℕ) : Type 0 where
  pub spelled : chars (forms_char z o) (length cs) ≡ cs
  pub zeros_past : (k : ℕ) → bit z (length cs + k) ≡ bit h k
  pub ones_past : (k : ℕ) → bit o (length cs + k) ≡ bit h k

abbrev FormsRead : ℕ → List ℕ → Option (ℕ × ℕ) → Type 0
FormsRead h cs None = Unit {0}
FormsRead h cs (Some w) = FormsAre h cs w.0 w.1

past_suc : (b v n k : ℕ) → b < 2 → bit (b + 2 * v) (suc n + k) ≡ bit v (n + k)
past_suc b v n k h = let e : suc n + k ≡ suc (n + k) = omega arith in ap (bit (b + 2 * v)) e ∙ high b v (n + k) h

under_read : (h c : ℕ) (cs : List ℕ) (f w : Option (ℕ × ℕ)) → FormIs c f → FormsRead h cs w → FormsRead h (c ∷ cs) (under f w)
under_read h c cs None w i r = tt
under_read h c cs (Some f) None i r = tt
under_read h c cs (Some f) (Some w) i r =
    record {
      spelled =
          chars_front _ (length cs)
          ∙ ap₂ ◌∷◌ (ap₂ (λ a b. form_char (form_at a b)) (low f.0 w.0 i.0) (low f.1 w.1 i.1) ∙ i.2)
          (chars_same _ _ (length cs) (λ j l. ap₂ (λ a b. form_char (form_at a b)) (high f.0 w.0 j i.0) (high f.1 w.1 j i.1)) ∙ r.spelled);
      zeros_past = λ k. past_suc f.0 w.0 (length cs) k i.0 ∙ r.zeros_past k;
      ones_past = λ k. past_suc f.1 w.1 (length cs) k i.1 ∙ r.ones_past k;
    }

nothing : (f : ℕ → ℕ) → chars f 0 ≡ []
unfolding chars
nothing f = refl

pub forms_read : (h : ℕ) (cs : List ℕ) → FormsRead h cs (forms_over h cs)
forms_read h [] =
    record {
      spelled = nothing _;
      zeros_past = λ k. let e : 0 + k ≡ k = omega arith in ap (bit h) e;
      ones_past = λ k. let e : 0 + k ≡ k = omega arith in ap (bit h) e;
    }
forms_read h (c ∷ cs) = under_read h c cs (form_bits c) (forms_over h cs) (form_is c) (forms_read h cs)

-- the same of the outputs
abbrev DrivenIs : ℕ → Option ℕ → Type 0
DrivenIs c None = Unit {0}
DrivenIs c (Some d) = (d < 2) × (driven_char (eqb d 1) ≡ c)

driven_is : (c : ℕ) → DrivenIs c (driven_bit c)
driven_is c =
    cond_both (eqb c 48) _ _ (DrivenIs c) (λ e. (omega arith, sym (eqb-true c 48 e)))
    (λ _. cond_both (eqb c 49) _ _ (DrivenIs c) (λ e. (omega arith, sym (eqb-true c 49 e))) (λ _. tt))

pub record WordIs (cs : List ℕ) (u : ℕ) : Type 0 where
  pub spelled : chars (word_char u) (length cs) ≡ cs
  pub within : u < 2 ^ length cs

abbrev WordRead : List ℕ → Option ℕ → Type 0
WordRead cs None = Unit {0}
WordRead cs (Some u) = WordIs cs u

below_read : (c : ℕ) (cs : List ℕ) (d w : Option ℕ) → DrivenIs c d → WordRead cs w → WordRead (c ∷ cs) (below d w)
below_read c cs None w i r = tt
below_read c cs (Some d) None i r = tt
below_read c cs (Some d) (Some w) i r =
    record {
      spelled =
          chars_front _ (length cs)
          ∙ ap₂ ◌∷◌ (ap (λ a. driven_char (eqb a 1)) (low d w i.0) ∙ i.1)
          (chars_same _ _ (length cs) (λ j l. ap (λ a. driven_char (eqb a 1)) (high d w j i.0)) ∙ r.spelled);
      within = let p = pow-suc 2 (length cs) in let l = r.within in let b = i.0 in omega arith;
    }

-- a word below 2 ^ o has no bit from o on
pub bit_above : (o j v : ℕ) → o ≤ j → v < 2 ^ o → bit v j ≡ 0
bit_above o j v l h = let p : 2 ^ o ≤ 2 ^ j = pow_mono l in ap (λ (n : ℕ). n % 2) (div-eq_of_lt (omega arith))

pub zero_bit : (k : ℕ) → bit 0 k ≡ 0
zero_bit zero = bit_zero 0
zero_bit (suc k) = bit_suc 0 k ∙ zero_bit k

pub word_read : (cs : List ℕ) → WordRead cs (driven_word cs)
word_read [] = record { spelled = nothing _; within = lit< tt }
word_read (c ∷ cs) = below_read c cs (driven_bit c) (driven_word cs) (driven_is c) (word_read cs)

-- what is read from the characters of two words is those words
form_back : (a b : ℕ) → a < 2 → b < 2 → bit_or a b ≡ 1 → form_bits (form_char (form_at a b)) ≡ Some (a, b)
form_back a b ha hb =
    by_bits (λ x y. bit_or x y ≡ 1 → form_bits (form_char (form_at x y)) ≡ Some (x, y)) (λ e. absurd (omega arith)) (λ e. refl) (λ e. refl) (λ e. refl) a b ha hb

driven_back : (a : ℕ) → a < 2 → driven_bit (driven_char (eqb a 1)) ≡ Some a
driven_back a h = by_bit (λ x. driven_bit (driven_char (eqb x 1)) ≡ Some x) refl refl a h

half_half : (z n : ℕ) → z / 2 / 2 ^ n ≡ z / 2 ^ suc n
half_half z n = div-div-eq-div-mul z 2 (2 ^ n) ∙ (let e : 2 * 2 ^ n ≡ 2 ^ suc n = let p = pow-suc 2 n in omega arith in ap (λ m. z / m) e)

bit_and_half : (z : ℕ) → bit z 0 + 2 * (z / 2) ≡ z
bit_and_half z = let e = bit_zero z in omega arith

pub forms_back : (h n z o : ℕ) → z / 2 ^ n ≡ h → o / 2 ^ n ≡ h → ((j : ℕ) → j < n → bit_or (bit z j) (bit o j) ≡ 1) → forms_over h (chars (forms_char z o) n) ≡ Some (z, o)
forms_back h zero z o e f full =
    let a : h ≡ z = let d : z / 1 ≡ z = omega arith in sym e ∙ d in
    let b : h ≡ o = let d : o / 1 ≡ o = omega arith in sym f ∙ d in
    ap (forms_over h) (nothing _) ∙ (λ i. Some (a i, b i))
forms_back h (suc n) z o e f full =
    let rest : forms_over h (chars (λ j. forms_char z o (suc j)) n) ≡ Some (z / 2, o / 2) =
    ap (forms_over h) (chars_same _ _ n (λ j l. ap₂ (λ a b. form_char (form_at a b)) (bit_suc z j) (bit_suc o j)))
    ∙ forms_back h n (z / 2) (o / 2) (half_half z n ∙ e) (half_half o n ∙ f)
    (λ j l. ap₂ bit_or (sym (bit_suc z j)) (sym (bit_suc o j)) ∙ full (suc j) (omega arith))
    in
    ap (forms_over h) (chars_front _ n)
    ∙ ap₂ under (form_back (bit z 0) (bit o 0) (bit_below z 0) (bit_below o 0) (full 0 (omega arith))) rest
    ∙ (λ i. Some (bit_and_half z i, bit_and_half o i))

pub word_back : (n u : ℕ) → u / 2 ^ n ≡ 0 → driven_word (chars (word_char u) n) ≡ Some u
word_back zero u e =
    let a : 0 ≡ u = let d : u / 1 ≡ u = omega arith in sym e ∙ d in ap driven_word (nothing _) ∙ ap Some a
word_back (suc n) u e =
    let rest : driven_word (chars (λ j. word_char u (suc j)) n) ≡ Some (u / 2) =
    ap driven_word (chars_same _ _ n (λ j l. ap (λ a. driven_char (eqb a 1)) (bit_suc u j))) ∙ word_back n (u / 2) (half_half u n ∙ e)
    in
    ap driven_word (chars_front _ n) ∙ ap₂ below (driven_back (bit u 0) (bit_below u 0)) rest ∙ ap Some (bit_and_half u)

-- the characters of a cube are those of its words
pub input_chars_are : (c : Cube) (i : ℕ) → i ≤ 32 → input_chars c i ≡ chars (forms_char c.zeros c.ones) i
input_chars_are c i le = chars_same _ _ i (λ j l. ap form_char (cond-true _ _ _ (lt-ltb j 32 (omega arith))))

pub output_chars_are : (c : Cube) (o : ℕ) → o ≤ 32 → output_chars c o ≡ chars (word_char c.outputs) o
output_chars_are c o le = chars_same _ _ o (λ j l. ap (λ b. driven_char (b && eqb (bit c.outputs j) 1)) (lt-ltb j 32 (omega arith)))

-- a word that is cut off below a bit
pub bit_over : (z i k : ℕ) → bit (z / 2 ^ i) k ≡ bit z (i + k)
bit_over z i k = ap (λ n. n % 2) (div-div-eq-div-mul z (2 ^ i) (2 ^ k) ∙ ap (λ n. z / n) (sym (pow-add 2 i k)))

over_lt : (z i : ℕ) → i ≤ 32 → z < 2 ^ 32 → z / 2 ^ i < 2 ^ (32 - i)
over_lt z i le h =
    let e : 32 - i + i ≡ 32 = omega arith in
    let p : 2 ^ (32 - i) * 2 ^ i ≡ 2 ^ 32 = sym (pow-add 2 (32 - i) i) ∙ ap (λ (n : ℕ). 2 ^ n) e in
    (div-lt_iff_lt-mul (pow_pos i)).1 (omega arith)

pub over_same : (z v i : ℕ) → i ≤ 32 → z < 2 ^ 32 → v < 2 ^ (32 - i) → ((k : ℕ) → i + k < 32 → bit z (i + k) ≡ bit v k) → z / 2 ^ i ≡ v
over_same z v i le hz hv h = bits_same (32 - i) (z / 2 ^ i) v (over_lt z i le hz) hv (λ k l. bit_over z i k ∙ h k (omega arith))
