-- A cube is what its words say, and an input can be put into any form.
-- Assumes nothing.
use Rattle.std.specs.Prelude.{◌≡◌, ℕ, ◌^◌, ◌<◌, Bool, true, false, cond, ◌==◌, refl}
use Rattle.std.proofs.Common.{sym, ap, ap₂, ◌∙◌, arith}
use mathlib.Core.HLevel.{is_prop→PathP}
use Rattle.std.proofs.Math.Nat.{ℕ_set}
use Rattle.std.proofs.Math.Bridge.{le_prop}
use Rattle.std.specs.Int.Bits.{bit_or}
use Rattle.std.proofs.lemmas.Nat.{or_comm, or_lt, le_or_l}
use Rattle.std.proofs.lemmas.Bool.{eq-eqb, lt-ltb, cond-true, false≢true}
use Rattle.cube.specs.Bit.{bit}
use Rattle.cube.specs.Cubes.{words, words_of, has_forms, has_output, made, made_by, formed, with_form}
use Rattle.cube.specs.declared.cube.Cube.{Cube}
use Rattle.cube.specs.declared.words.Words.{Words}
use Rattle.cube.specs.declared.cube.Form.{Form}
use Rattle.cube.specs.declared.cube.Form.TheVariants.{Negative, Positive, Absent}
use Rattle.cube.specs.BitLaws.{bit_of_or, bit_mask, bits_same, with_bit_at, without_bit_at, with_bit_lt, without_bit_lt}

pub same_words : (a b : Cube) → a.zeros ≡ b.zeros → a.ones ≡ b.ones → a.outputs ≡ b.outputs → a ≡ b
same_words a b p q r =
    λ i. record {
      zeros = p i;
      ones = q i;
      outputs = r i;
      full = is_prop→PathP (λ j. bit_or (p j) (q j) ≡ 4294967295) (λ j. ℕ_set _ _) a.full b.full i;
      driven = is_prop→PathP (λ j. 0 < r j) (λ j. le_prop) a.driven b.driven i;
    }

-- words that make a cube are the words of that cube
pub made_words : (w : Words) → bit_or w.zeros w.ones ≡ 4294967295 → 0 < w.outputs → words (made w) ≡ w
unfolding made
made_words w f d = go (has_forms w) (has_output w) refl refl (eq-eqb _ _ f) (lt-ltb _ _ d)
  where
    go : (s t : Bool) (p : has_forms w ≡ s) (q : has_output w ≡ t) → s ≡ true → t ≡ true → words (made_by w s t p q) ≡ w
    go true true p q e h = refl
    go true false p q e h = absurd (false≢true h)
    go false t p q e h = absurd (false≢true e)

pub made_is : (c : Cube) → made (words c) ≡ c
made_is c =
    let e = made_words (words c) c.full c.driven in
    same_words (made (words c)) c (ap (λ w. w.zeros) e) (ap (λ w. w.ones) e) (ap (λ w. w.outputs) e)

pub full_bit : (z o i : ℕ) → bit_or z o ≡ 4294967295 → i < 32 → bit_or (bit z i) (bit o i) ≡ 1
full_bit z o i h lt = sym (bit_of_or z o i) ∙ ap (λ n. bit n i) h ∙ bit_mask 32 i lt

pub full_from : (z o : ℕ) → z < 2 ^ 32 → o < 2 ^ 32 → ((i : ℕ) → i < 32 → bit_or (bit z i) (bit o i) ≡ 1) → bit_or z o ≡ 4294967295
full_from z o hz ho h = bits_same 32 _ _ (or_lt 32 z o hz ho) (omega arith) (λ i lt. bit_of_or z o i ∙ h i lt ∙ sym (bit_mask 32 i lt))

zeros_lt : (z o : ℕ) → bit_or z o ≡ 4294967295 → z < 2 ^ 32
zeros_lt z o h = let l = le_or_l z o in omega arith

ones_lt : (z o : ℕ) → bit_or z o ≡ 4294967295 → o < 2 ^ 32
ones_lt z o h = zeros_lt o z (or_comm o z ∙ h)

-- the words of the inputs of a cube
pub inputs_lt : (c : Cube) → (c.zeros < 2 ^ 32) × (c.ones < 2 ^ 32)
inputs_lt c = (zeros_lt c.zeros c.ones c.full, ones_lt c.zeros c.ones c.full)

-- at one place of two words: x and y there, v and w elsewhere
chosen_full : (t : Bool) (x y v w : ℕ) → bit_or x y ≡ 1 → bit_or v w ≡ 1 → bit_or (cond t x v) (cond t y w) ≡ 1
chosen_full true x y v w p q = p
chosen_full false x y v w p q = q

module _ (z o u i : ℕ) (h : bit_or z o ≡ 4294967295) (lt : i < 32) where
  pub formed_full : (f : Form) → bit_or (formed (words_of z o u) i f).zeros (formed (words_of z o u) i f).ones ≡ 4294967295
  formed_full Negative =
      full_from _ _ (with_bit_lt 32 z i (zeros_lt z o h) lt) (without_bit_lt 32 o i (ones_lt z o h) lt)
      (λ j l. ap₂ bit_or (with_bit_at z i j) (without_bit_at o i j) ∙ chosen_full (j == i) 1 0 _ _ refl (full_bit z o j h l))
  formed_full Positive =
      full_from _ _ (without_bit_lt 32 z i (zeros_lt z o h) lt) (with_bit_lt 32 o i (ones_lt z o h) lt)
      (λ j l. ap₂ bit_or (without_bit_at z i j) (with_bit_at o i j) ∙ chosen_full (j == i) 0 1 _ _ refl (full_bit z o j h l))
  formed_full Absent =
      full_from _ _ (with_bit_lt 32 z i (zeros_lt z o h) lt) (with_bit_lt 32 o i (ones_lt z o h) lt)
      (λ j l. ap₂ bit_or (with_bit_at z i j) (with_bit_at o i j) ∙ chosen_full (j == i) 1 1 _ _ refl (full_bit z o j h l))

-- the words of a cube with input i in a form
pub with_form_words : (c : Cube) (i : ℕ) (f : Form) → i < 32 → words (with_form c i f) ≡ formed (words c) i f
with_form_words c i f lt =
    ap words (cond-true _ _ _ (lt-ltb i 32 lt))
    ∙ made_words (formed (words c) i f) (formed_full c.zeros c.ones c.outputs i c.full lt f) (outputs_kept f)
  where
    outputs_kept : (g : Form) → 0 < (formed (words c) i g).outputs
    outputs_kept Negative = c.driven
    outputs_kept Positive = c.driven
    outputs_kept Absent = c.driven
