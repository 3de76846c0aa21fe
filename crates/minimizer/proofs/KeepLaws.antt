-- What the runs leave keeps to the inputs and outputs that the rows keep to.
-- Assumes nothing.
use Rattle.std.proofs.Common.{◌≡◌, ℕ, ◌+◌, ◌-◌, ◌*◌, ◌^◌, ◌<◌, ◌≤◌, Bool, true, false, not, cond, ◌&&◌, ◌||◌, eqb, ltb, List, [], ◌∷◌, sym, refl, ap, ◌∙◌, ap₂, ⊎_elim, div-lt_iff_lt-mul, arith, pow_pos}
use Rattle.std.proofs.Math.Pow.{pow_mono}
use lib.Bits.{bit_xor, xor_lt}
use Rattle.std.specs.List.{AllByRecursion}
use Rattle.std.proofs.lemmas.Bool.{cond-true, cond-false, cases_lt, lt-ltb, le-ltb, ltb-true, eqb-true, eq-eqb, and_from, and_parts, or_left, or_right}
use Rattle.esop.specs.Lasting.{Passes, JoinKeeps}
use Rattle.esop.proofs.Everywhere.{everywhere_all, everywhere_at}
use Rattle.esop.proofs.Lasting.{values_last}
use Rattle.cube.specs.Bit.{bit}
use Rattle.cube.specs.Covering.{value}
use Rattle.cube.specs.Cubes.{form_of, driven}
use Rattle.cube.specs.Positions.{cubes}
use Rattle.cube.specs.declared.cube.Cube.{Cube}
use Rattle.cube.specs.declared.cube.Form.TheVariants.{Absent}
use Rattle.cube.specs.BitLaws.{bit_below}
use Rattle.cube.specs.PositionLaws.{cubes_lawful}
use Rattle.reader.proofs.BackLaws.{absent_bits, past_outputs}
use Rattle.reader.proofs.SpellLaws.{over_same, bit_above, zero_bit}
use Rattle.reader.specs.Back.{all_words}
use Rattle.sheet.specs.Text.{absent, keeps_at, keeps_to}
use Rattle.sheet.specs.Writing.{all_keep}
use Rattle.minimizer.specs.Shrinking.{reduced_run, refined_run, shrunk}

-- the value v at position j is one that a product with i inputs and o outputs may have: an input from i on is absent, and no output from o on is driven
within : ℕ → ℕ → ℕ → ℕ → Bool
within i o j v = cond (ltb j 32) (ltb j i || eqb v 3) (ltb v (2 ^ o))

-- joining two different values keeps it: an absent input has no other value
joins_keep : (i o : ℕ) → JoinKeeps cubes (within i o)
unfolding within
joins_keep i o j u v ne p q =
    ⊎_elim
    (λ (l : j < 32).
    let t = lt-ltb j 32 l in
    ⊎_elim
    (λ (k : j < i). cond-true _ _ _ t ∙ or_left (ltb j i) (eqb (bit_xor u v) 3) (lt-ltb j i k))
    (λ (k : i ≤ j).
    let a : u ≡ 3 = eqb-true u 3 (sym (cond-true _ _ _ t ∙ ap (λ b. b || eqb u 3) (le-ltb j i k)) ∙ p) in
    let b : v ≡ 3 = eqb-true v 3 (sym (cond-true _ _ _ t ∙ ap (λ b. b || eqb v 3) (le-ltb j i k)) ∙ q) in
    absurd (ne (a ∙ sym b)))
    (cases_lt j i))
    (λ (l : 32 ≤ j).
    let f = le-ltb j 32 l in
    let a = ltb-true u (2 ^ o) (sym (cond-false _ _ _ f) ∙ p) in
    let b = ltb-true v (2 ^ o) (sym (cond-false _ _ _ f) ∙ q) in
    cond-false _ _ _ f ∙ lt-ltb (bit_xor u v) (2 ^ o) (xor_lt o u v a b))
    (cases_lt j 32)

undriven : (c : Cube) (j : ℕ) → j < 32 → bit c.outputs j ≡ 0 → driven c j ≡ false
undriven c j l e = ap₂ ◌&&◌ (lt-ltb j 32 l) (ap (λ b. eqb b 1) e)

module _ (i o : ℕ) (li : i ≤ 32) (lo : o ≤ 32) where
  word_within : (c : Cube) → keeps_to i o c ≡ true → c.outputs < 2 ^ 32 → c.outputs < 2 ^ o
  word_within c h few =
      let e = over_same c.outputs 0 o lo few (pow_pos (32 - o)) (λ k l. past_outputs i o c li lo h (o + k) (omega arith) l ∙ sym (zero_bit k)) in
      let lt = (div-lt_iff_lt-mul {x = c.outputs} {y = 1} (pow_pos o)).0 (omega arith) in
      omega arith

  -- the value at an input is 3 exactly where the input is absent
  absent_value : (c : Cube) (j : ℕ) → j < 32 → absent (form_of c j) ≡ true → value c j ≡ 3
  absent_value c j l e =
      let b = absent_bits (bit c.zeros j) (bit c.ones j) (bit_below c.zeros j) (bit_below c.ones j) (ap absent (sym (cond-true _ _ _ (lt-ltb j 32 l))) ∙ e) in
      let p = b.0 in
      let q = b.1 in
      cond-true _ _ _ (lt-ltb j 32 l) ∙ omega arith

  value_absent : (c : Cube) (j : ℕ) → j < 32 → value c j ≡ 3 → form_of c j ≡ Absent
  value_absent c j l e =
      let v : bit c.zeros j + 2 * bit c.ones j ≡ 3 = sym (cond-true _ _ _ (lt-ltb j 32 l)) ∙ e in
      let a = bit_below c.zeros j in
      let b = bit_below c.ones j in
      let p : bit c.zeros j ≡ 1 = omega arith in
      let q : bit c.ones j ≡ 1 = omega arith in
      cond-true _ _ _ (lt-ltb j 32 l) ∙ cond-true _ _ _ (eq-eqb _ 1 p) ∙ cond-true _ _ _ (eq-eqb _ 1 q)

  keeps_passes : (c : Cube) → keeps_to i o c ≡ true → c.outputs < 2 ^ 32 → Passes cubes (within i o) c
  unfolding within
  keeps_passes c h few j l =
      ⊎_elim
      (λ (k : j < 32).
      let here = and_parts (ltb j i || absent (form_of c j)) (ltb j o || not (driven c j)) (everywhere_at (keeps_at i o c) 32 j k h) in
      cond-true _ _ _ (lt-ltb j 32 k)
      ∙ ⊎_elim (λ (a : j < i). or_left (ltb j i) (eqb (value c j) 3) (lt-ltb j i a))
      (λ (a : i ≤ j).
      or_right (ltb j i) (eqb (value c j) 3)
      (eq-eqb (value c j) 3 (absent_value c j k (sym (ap (λ b. b || absent (form_of c j)) (le-ltb j i a)) ∙ here.0))))
      (cases_lt j i))
      (λ (k : 32 ≤ j).
      let e : j ≡ 32 = omega arith in
      let w : value c j ≡ c.outputs = ap (value c) e in
      cond-false _ _ _ (le-ltb j 32 k) ∙ ap (λ v. ltb v (2 ^ o)) w ∙ lt-ltb c.outputs (2 ^ o) (word_within c h few))
      (cases_lt j 32)

  passes_word : (c : Cube) → Passes cubes (within i o) c → c.outputs < 2 ^ o
  unfolding within
  passes_word c h = ltb-true c.outputs (2 ^ o) (h 32 (omega arith))

  passes_keeps : (c : Cube) → Passes cubes (within i o) c → keeps_to i o c ≡ true
  unfolding within
  passes_keeps c h =
      everywhere_all (keeps_at i o c) 32
      (λ j l.
      and_from _ _
      (⊎_elim (λ (a : j < i). or_left (ltb j i) (absent (form_of c j)) (lt-ltb j i a))
      (λ (a : i ≤ j).
      let v = eqb-true (value c j) 3 (sym (cond-true _ _ _ (lt-ltb j 32 l) ∙ ap (λ b. b || eqb (value c j) 3) (le-ltb j i a)) ∙ h j (omega arith)) in
      or_right (ltb j i) (absent (form_of c j)) (ap absent (value_absent c j l v)))
      (cases_lt j i))
      (⊎_elim (λ (a : j < o). or_left (ltb j o) (not (driven c j)) (lt-ltb j o a))
      (λ (a : o ≤ j). or_right (ltb j o) (not (driven c j)) (ap not (undriven c j l (bit_above o j c.outputs a (passes_word c h)))))
      (cases_lt j o)))

  all_pass : (cs : List Cube) → all_keep i o cs ≡ true → all_words cs ≡ true → AllByRecursion (Passes cubes (within i o)) cs
  all_pass [] h w = tt
  all_pass (c ∷ cs) h w =
      let p = and_parts (keeps_to i o c) (all_keep i o cs) h in
      let q = and_parts (ltb c.outputs (2 ^ 32)) (all_words cs) w in
      (keeps_passes c p.0 (ltb-true c.outputs (2 ^ 32) q.0), all_pass cs p.1 q.1)

  each_keeps : (cs : List Cube) → AllByRecursion (Passes cubes (within i o)) cs → all_keep i o cs ≡ true
  each_keeps [] h = refl
  each_keeps (c ∷ cs) h = and_from _ _ (passes_keeps c h.0) (each_keeps cs h.1)

  each_word : (cs : List Cube) → AllByRecursion (Passes cubes (within i o)) cs → all_words cs ≡ true
  each_word [] h = refl
  each_word (c ∷ cs) h =
      let w = passes_word c h.0 in
      let p : 2 ^ o ≤ 2 ^ 32 = pow_mono lo in
      and_from _ _ (lt-ltb c.outputs (2 ^ 32) (omega arith)) (each_word cs h.1)

  all_last : (rows : List Cube) → all_keep i o rows ≡ true → all_words rows ≡ true → AllByRecursion (Passes cubes (within i o)) (shrunk rows)
  unfolding reduced_run refined_run
  all_last rows h w =
      let lasts = values_last cubes cubes_lawful (within i o) (joins_keep i o) in
      lasts.running _ _ _ (lasts.running _ _ _ (lasts.entering rows [] (all_pass rows h w) tt))

  pub shrunk_keeps : (rows : List Cube) → all_keep i o rows ≡ true → all_words rows ≡ true → all_keep i o (shrunk rows) ≡ true
  shrunk_keeps rows h w = each_keeps (shrunk rows) (all_last rows h w)

  pub shrunk_words : (rows : List Cube) → all_keep i o rows ≡ true → all_words rows ≡ true → all_words (shrunk rows) ≡ true
  shrunk_words rows h w = each_word (shrunk rows) (all_last rows h w)
