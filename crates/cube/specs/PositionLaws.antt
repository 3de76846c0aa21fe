-- Cubes are a lawful kind of product.
-- Assumes nothing.
use Rattle.std.specs.Prelude.{◌≡◌, ℕ, ◌+◌, ◌*◌, ◌/◌, ◌^◌, ◌<◌, ◌≤◌, Bool, true, false, cond, not, ◌&&◌, ◌==◌, bit_or, nat_eq, nat_lt, refl}
use Rattle.std.proofs.Common.{sym, ap, ap₂, ◌∙◌, subst, inl, inr, arith, lit<, lit≤}
use Rattle.std.specs.Int.Bits.{bit_xor}
use Rattle.std.proofs.lemmas.Nat.{xor_lt}
use Rattle.std.proofs.lemmas.Bool.{cases_eq, cases_lt, cond-true, cond-false, cond_both, eq-eqb, ne_eqb, eqb-true, eqb-false, lt-ltb, le-ltb, ltb-true, ltb-false, and_parts, not-true}
use Rattle.std.proofs.lemmas.Bool.Decides.{nat_tests}
use Rattle.esop.specs.Kind.{Positions, Laws, either}
use Rattle.esop.specs.Positionwise.{Positionwise}
use Rattle.esop.proofs.Positionwise.{and_either, positionwise_lawful}
use Rattle.cube.specs.Bit.{bit}
use Rattle.cube.specs.Cubes.{words, made}
use Rattle.cube.specs.Covering.{value_of, value, meets}
use Rattle.cube.specs.Positions.{taken_input, taken_outputs, taken_words, mixed_words, unlike, taken, joined, present_inputs, weight_of, cubes}
use Rattle.cube.specs.declared.cube.Cube.{Cube}
use Rattle.cube.specs.declared.words.Words.{Words}
use Rattle.cube.specs.BitLaws.{bit_below, bit_of_xor, by_bits, chosen_at, chosen_lt, xor_low, xor_some}
use Rattle.cube.specs.MakingLaws.{made_words, full_bit, full_from, inputs_lt}
use Rattle.cube.specs.CountLaws.{count_le}

-- the value at position j, from the two bits of an input and the word of outputs
abbrev value_from : ℕ → ℕ → ℕ → ℕ → ℕ
value_from j x y u = cond (nat_lt j 32) (x + 2 * y) (cond (j == 32) u 0)

-- by cases of the positions, over any numbers for the bits
input_put : (i j x y u x' y' u' : ℕ) → nat_lt i 32 ≡ true → value_from j (cond (i == j) x' x) (cond (i == j) y' y) u ≡ cond (i == j) (value_from j x' y' u') (value_from j x y u)
input_put i j x y u x' y' u' h = grind (arith, nat_tests)

outputs_put : (i j x y u x' y' u' : ℕ) → nat_lt i 32 ≡ false → i < 33 → value_from j x y u' ≡ cond (i == j) (value_from j x' y' u') (value_from j x y u)
outputs_put i j x y u x' y' u' h l = grind (arith, nat_tests)

-- a take replaces the value at its position, and leaves every other
taken_value : (w v : Words) (i j : ℕ) → i < 33 → value_of (taken_words w i v) j ≡ cond (i == j) (value_of v j) (value_of w j)
taken_value w v i j l = go (nat_lt i 32) refl
  where
    go : (t : Bool) → nat_lt i 32 ≡ t → value_of (cond t (taken_input w i v) (taken_outputs w v)) j ≡ cond (i == j) (value_of v j) (value_of w j)
    go true h =
        ap₂ (λ x y. value_from j x y w.outputs) (chosen_at w.zeros v.zeros i j) (chosen_at w.ones v.ones i j)
        ∙ input_put i j _ _ _ _ _ _ h
    go false h = outputs_put i j _ _ _ _ _ _ h l

-- the value of words at position i, by whether i is an input and whether it is the outputs
abbrev value_by : Words → ℕ → Bool → Bool → ℕ
value_by w i s t = cond s (bit w.zeros i + 2 * bit w.ones i) (cond t w.outputs 0)

mixed_value : (w v : Words) (i : ℕ) → value_of (mixed_words w v) i ≡ bit_xor (value_of w i) (value_of v i)
mixed_value w v i = go (nat_lt i 32) (i == 32)
  where
    go : (s t : Bool) → value_by (mixed_words w v) i s t ≡ bit_xor (value_by w i s t) (value_by v i s t)
    go true t =
        ap₂ (λ z o. z + 2 * o) (bit_of_xor w.zeros v.zeros i) (bit_of_xor w.ones v.ones i)
        ∙ sym (xor_low _ _ _ _ (bit_below w.zeros i) (bit_below v.zeros i))
    go false true = refl
    go false false = refl

-- the value of an input is not 0 exactly where one of its bits is set
value_form : (x y : ℕ) → x < 2 → y < 2 → 0 < x + 2 * y → bit_or x y ≡ 1
value_form = by_bits (λ x y. 0 < x + 2 * y → bit_or x y ≡ 1) (λ h. absurd (omega arith)) (λ _. refl) (λ _. refl) (λ _. refl)

form_value_some : (x y : ℕ) → x < 2 → y < 2 → bit_or x y ≡ 1 → 0 < x + 2 * y
form_value_some = by_bits (λ x y. bit_or x y ≡ 1 → 0 < x + 2 * y) (λ h. absurd (omega arith)) (λ _. lit< tt) (λ _. lit< tt) (λ _. lit< tt)

outputs_at : (w : Words) (i : ℕ) → nat_lt i 32 ≡ false → i < 33 → value_of w i ≡ w.outputs
outputs_at w i h l = cond-false _ _ _ h ∙ cond-true _ _ _ (eq-eqb i 32 (omega (arith, ltb-false i 32 h)))

-- no value of a cube is 0
pub value_some : (c : Cube) (i : ℕ) → i < 33 → 0 < value c i
value_some c i l = go (nat_lt i 32) refl
  where
    go : (t : Bool) → nat_lt i 32 ≡ t → 0 < value c i
    go true h =
        subst (λ n. 0 < n) (sym (cond-true _ _ _ h))
        (form_value_some _ _ (bit_below c.zeros i) (bit_below c.ones i) (full_bit c.zeros c.ones i c.full (ltb-true i 32 h)))
    go false h = subst (λ n. 0 < n) (sym (outputs_at (words c) i h l)) c.driven

-- where two cubes differ, the joined value is not 0
pub mixed_some : (a b : Cube) (i : ℕ) → unlike a b i ≡ true → 0 < value_of (mixed_words (words a) (words b)) i
mixed_some a b i d =
    subst (λ n. 0 < n) (sym (mixed_value (words a) (words b) i)) (xor_some (value a i) (value b i) (eqb-false _ _ (not-true _ (and_parts (nat_lt i 33) _ d).1)))

-- words of 32 inputs
abbrev pub Inputs32 : Words → Type 0
Inputs32 w = (w.zeros < 2 ^ 32) × (w.ones < 2 ^ 32)

mixed_inputs : (a b : Cube) → Inputs32 (mixed_words (words a) (words b))
mixed_inputs a b =
    (xor_lt 32 a.zeros b.zeros (inputs_lt a).0 (inputs_lt b).0, xor_lt 32 a.ones b.ones (inputs_lt a).1 (inputs_lt b).1)

-- at one place of two words: x and y there, v and w elsewhere
chosen_some : (t : Bool) (x y v w : ℕ) → (t ≡ true → 0 < x + 2 * y) → 0 < v + 2 * w → 0 < cond t x v + 2 * cond t y w
chosen_some true x y v w p q = p refl
chosen_some false x y v w p q = q

-- each input keeps a form where the one taken has a form
input_forms : (a : Cube) (v : Words) (i : ℕ) → i < 32 → 0 < value_of v i → (j : ℕ) → j < 32
    → bit_or (bit (taken_input (words a) i v).zeros j) (bit (taken_input (words a) i v).ones j) ≡ 1
input_forms a v i l some j k = value_form _ _ (bit_below _ j) (bit_below _ j) at
  where
    here : 0 < bit v.zeros i + 2 * bit v.ones i
    here = subst (λ n. 0 < n) (cond-true _ _ _ (lt-ltb i 32 l)) some

    at : 0 < bit (taken_input (words a) i v).zeros j + 2 * bit (taken_input (words a) i v).ones j
    at =
        subst (λ n. 0 < n) (sym (ap₂ (λ z o. z + 2 * o) (chosen_at a.zeros v.zeros i j) (chosen_at a.ones v.ones i j)))
        (chosen_some (i == j) _ _ _ _ (λ e. subst (λ m. 0 < bit v.zeros m + 2 * bit v.ones m) (eqb-true i j e) here)
        (form_value_some _ _ (bit_below a.zeros j) (bit_below a.ones j) (full_bit a.zeros a.ones j a.full k)))

-- and so each input has a form in words of 32 inputs that are the ones taken
pub taken_full : (a : Cube) (v : Words) (i : ℕ) (w : Words) → w ≡ taken_words (words a) i v → Inputs32 w → i < 33 → 0 < value_of v i → bit_or w.zeros w.ones ≡ 4294967295
taken_full a v i w e n l some = go (nat_lt i 32) refl e
  where
    go : (t : Bool) → nat_lt i 32 ≡ t → w ≡ cond t (taken_input (words a) i v) (taken_outputs (words a) v) → bit_or w.zeros w.ones ≡ 4294967295
    go true h e =
        full_from _ _ n.0 n.1
        (λ j k. ap (λ u. bit_or (bit u.zeros j) (bit u.ones j)) e ∙ input_forms a v i (ltb-true i 32 h) some j k)
    go false h e = ap (λ u. bit_or u.zeros u.ones) e ∙ a.full

module _ (a : Cube) (v : Words) (i : ℕ) (l : i < 33) (n : Inputs32 v) (some : 0 < value_of v i) where
  -- the words of a cube with one position of other words
  put_words : words (made (taken_words (words a) i v)) ≡ taken_words (words a) i v
  put_words =
      made_words (taken_words (words a) i v)
      (taken_full a v i (taken_words (words a) i v) refl
      (cond_both (nat_lt i 32) (taken_input (words a) i v) (taken_outputs (words a) v) Inputs32
      (λ h. (chosen_lt 32 a.zeros v.zeros (2 ^ i) (inputs_lt a).0 n.0, chosen_lt 32 a.ones v.ones (2 ^ i) (inputs_lt a).1 n.1))
      (λ h. inputs_lt a))
      l some)
      (cond_both (nat_lt i 32) (taken_input (words a) i v) (taken_outputs (words a) v) (λ w. 0 < w.outputs)
      (λ h. a.driven) (λ h. subst (λ n. 0 < n) (outputs_at v i h l) some))

  put_value : (j : ℕ) → value (made (taken_words (words a) i v)) j ≡ cond (i == j) (value_of v j) (value a j)
  put_value j = ap (λ w. value_of w j) put_words ∙ taken_value (words a) v i j l

take_past : (a b : Cube) (i : ℕ) → 33 ≤ i → taken a i b ≡ a
take_past a b i h = cond-false _ _ _ (le-ltb i 33 h)

take_value : (a b : Cube) (i j : ℕ) → j < 33 → value (taken a i b) j ≡ cond (i == j) (value b j) (value a j)
take_value a b i j l =
    elim (cases_lt i 33) [
      | inl inside ↦
          ap (λ c. value c j) (cond-true _ _ _ (lt-ltb i 33 inside)) ∙ put_value a (words b) i inside (inputs_lt b) (value_some b i inside) j
      | inr past ↦
          ap (λ c. value c j) (take_past a b i past) ∙ sym (cond-false _ _ _ (ne_eqb i j (λ e. omega arith)))
    ]

-- a choice at i ≡ j, at i or at j
moved : (f : ℕ → ℕ) (x i j : ℕ) → cond (i == j) (f j) x ≡ cond (i == j) (f i) x
moved f x i j =
    elim (cases_eq i j) [
      | inl e ↦ ap (λ n. cond (i == j) (f n) x) (sym e)
      | inr ne ↦ cond-false _ _ _ (ne_eqb i j ne) ∙ sym (cond-false _ _ _ (ne_eqb i j ne))
    ]

join_value : (a b : Cube) (i j : ℕ) → unlike a b i ≡ true → j < 33 → value (joined a i b) j ≡ cond (i == j) (bit_xor (value a i) (value b i)) (value a j)
join_value a b i j d l =
    ap (λ c. value c j) (cond-true _ _ _ d)
    ∙ put_value a (mixed_words (words a) (words b)) i (ltb-true i 33 (and_parts (nat_lt i 33) _ d).0) (mixed_inputs a b) (mixed_some a b i d) j
    ∙ ap (λ n. cond (i == j) n (value a j)) (mixed_value (words a) (words b) j)
    ∙ moved (λ k. bit_xor (value a k) (value b k)) (value a j) i j

positions : Positions cubes
positions = record {
  width_bounds = (lit≤ tt, lit≤ tt);
  take_past = take_past;
  take_value = take_value;
  join_none = λ a b i d. cond-false _ _ _ d;
  join_value = join_value;
}

present_le : (c : Cube) → present_inputs c ≤ 32
present_le c = count_le (λ i. not (value c i == 3)) 32

weight_bound : (c : Cube) → weight_of c ≤ 6561
weight_bound c = let inputs = present_le c in omega arith

either_bits : (x y : ℕ) → x < 2 → y < 2 → (bit_xor x y == 1) ≡ either (x == 1) (y == 1)
either_bits = by_bits (λ x y. (bit_xor x y == 1) ≡ either (x == 1) (y == 1)) refl refl refl refl

-- a bit of an exclusive or is set where exactly one of the two has it set
pub mixed_bit : (u v i : ℕ) → (bit (bit_xor u v) i == 1) ≡ either (bit u i == 1) (bit v i == 1)
mixed_bit u v i = ap (λ n. nat_eq n 1) (bit_of_xor u v i) ∙ either_bits (bit u i) (bit v i) (bit_below u i) (bit_below v i)

-- whether the value v lets x through at position i, by whether i is an input
abbrev meets_by : ℕ → ℕ → ℕ → Bool → Bool
meets_by i v x t = cond t (bit v (bit x i) == 1) (nat_lt (x / 2 ^ 32) 32 && bit v (x / 2 ^ 32) == 1)

-- the joined value lets a point through exactly when one of the two does and the other does not
mixed_meets : (i u v x : ℕ) → meets i (bit_xor u v) x ≡ either (meets i u x) (meets i v x)
mixed_meets i u v x = go (nat_lt i 32)
  where
    go : (t : Bool) → meets_by i (bit_xor u v) x t ≡ either (meets_by i u x t) (meets_by i v x t)
    go true = mixed_bit u v (bit x i)
    go false = ap (λ t. nat_lt (x / 2 ^ 32) 32 && t) (mixed_bit u v (x / 2 ^ 32)) ∙ and_either (nat_lt (x / 2 ^ 32) 32) _ _

by_position : Positionwise cubes meets
by_position = record {
  positions = positions;
  weight_bound = weight_bound;
  covers_is = λ a x. refl;
  mixed_meets = λ a b i x d. mixed_meets i (value a i) (value b i) x;
}

pub cubes_lawful : Laws cubes
cubes_lawful = positionwise_lawful by_position
