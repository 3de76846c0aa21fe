-- What the call answers, from what its steps did.
-- Assumes nothing.
use Rattle.std.proofs.Common.{◌≡◌, ℕ, ◌+◌, ◌-◌, ◌*◌, ◌/◌, ◌%◌, ◌^◌, ◌<◌, ◌≤◌, true, cond, ◌&&◌, eqb, ltb, leb, List, ◌++◌, length, get_or, take, drop, Some, Ok, Err, sym, refl, ap, ◌∙◌, subst, ap₂, ⊎_elim, mul_assoc, arith, pow_pos, pow_mono, pow-add}
use Rattle.std.proofs.lemmas.Nat.{mod_low, shr_high, pow_below}
use Rattle.std.proofs.lemmas.List.{take_at}
use Rattle.std.proofs.lemmas.Bool.{cases_order, cases_lt, cond-true, eq-eqb, lt-ltb, le-leb}
use Rattle.cube.specs.Bit.{bit}
use Rattle.cube.specs.Cubes.{words, words_of}
use Rattle.cube.specs.Covering.{value, meets, covers, covering}
use Rattle.cube.specs.declared.cube.Cube.{Cube}
use Rattle.std.proofs.lemmas.Nat.Bits.{bit_at-pow_same}
use Rattle.cube.specs.BitLaws.{bit_mask}
use Rattle.cube.specs.MakingLaws.{made_words}
use Rattle.esop.proofs.Everywhere.{everywhere_all}
use Rattle.cube.proofs.CoveringLaws.{absent_meets}
use Rattle.expansion.specs.Tables.{binary, inputs_of}
use Rattle.expansion.specs.Expansions.{Expansion, products, chosen, needed, chosen_products}
use Rattle.expansion.specs.Answers.{start_of, asked, expansion_of, counted, filled, Expanded}
use Rattle.expansion.specs.declared.refusal.ExpandRefusal.TheVariants.{Room}
use Rattle.expansion.proofs.TableLaws.{binary_at, exponent_found}
use Rattle.expansion.proofs.SplitLaws.{length_products}
use Rattle.expansion.proofs.ExpansionLaws.{Free, fewest, parity}

-- ---- the product of no input at output u

start_words : (u : ℕ) → words (start_of u) ≡ words_of 4294967295 4294967295 (2 ^ u)
start_words u = made_words (words_of 4294967295 4294967295 (2 ^ u)) refl (pow_pos u)

start_free : (u : ℕ) → Free 32 (start_of u)
start_free u i lt =
    cond-true _ _ _ (lt-ltb i 32 lt)
    ∙ ap₂ (λ m n. m + 2 * n)
    (ap (λ w. bit w.zeros i) (start_words u) ∙ bit_mask 32 i lt) (ap (λ w. bit w.ones i) (start_words u) ∙ bit_mask 32 i lt)

start_covers : (u p : ℕ) → u < 32 → p < 2 ^ 32 → covers (start_of u) (p + 2 ^ 32 * u) ≡ true
start_covers u p hu hp =
    everywhere_all (λ i. meets i (value (start_of u) i) x) 33
    (λ i h. ⊎_elim
    (λ (lt : i < 32). ap (λ v. meets i v x) (start_free u i lt) ∙ absent_meets i x lt)
    (λ (ge : 32 ≤ i). let e : i ≡ 32 = omega arith in ap (λ j. meets j (value (start_of u) j) x) e ∙ last)
    (cases_lt i 32))
  where
    x : ℕ
    x = p + 2 ^ 32 * u

    output : x / 2 ^ 32 ≡ u
    output = let e : p + 2 ^ 32 * u ≡ u * 2 ^ 32 + p = omega arith in ap (λ n. n / 2 ^ 32) e ∙ shr_high u 32 p hp

    last : meets 32 (value (start_of u) 32) x ≡ true
    last =
        ap₂ ◌&&◌ (ap (λ o. ltb o 32) output ∙ lt-ltb u 32 hu)
        (ap₂ (λ v o. eqb (bit v o) 1) (ap (λ w. w.outputs) (start_words u)) output ∙ eq-eqb _ 1 (bit_at-pow_same u))

-- ---- the laws, for a table of 2 ^ k bytes

same_exponent : (j k : ℕ) → 2 ^ j ≡ 2 ^ k → j ≡ k
same_exponent j k e =
    ⊎_elim (λ h. h)
    (λ s. ⊎_elim (λ (l : j < k). absurd (let p = pow_below j k l in omega arith)) (λ (l : k < j). absurd (let p = pow_below k j l in omega arith)) s)
    (cases_order j k)

none_fewer : (k : ℕ) (t : List ℕ) (c : Cube) → length t ≡ 2 ^ k → (j : ℕ) (e : Expansion j) → length t ≡ 2 ^ j → needed k t ≤ length (products j e t c)
none_fewer k t c len j e at =
    let q : k ≡ j = same_exponent k j (sym len ∙ at) in
    subst (λ (m : ℕ). (e : Expansion m) → needed k t ≤ length (products m e t c)) q
    (λ d. let l = length_products k d t c in let f = fewest k d t in omega arith) e

low_bits : (k p u : ℕ) → k ≤ 32 → p < 2 ^ k → (p + 2 ^ 32 * u) % 2 ^ k ≡ p
low_bits k p u le h =
    let whole : 2 ^ 32 ≡ 2 ^ (32 - k) * 2 ^ k = let e : 32 ≡ (32 - k) + k = omega arith in ap (λ n. 2 ^ n) e ∙ pow-add 2 (32 - k) k in
    let split : u * 2 ^ (32 - k) * 2 ^ k ≡ u * 2 ^ 32 = mul_assoc u (2 ^ (32 - k)) (2 ^ k) ∙ ap (λ n. u * n) (sym whole) in
    let sum : p + 2 ^ 32 * u ≡ u * 2 ^ (32 - k) * 2 ^ k + p = omega arith in
    ap (λ n. n % 2 ^ k) sum ∙ mod_low (u * 2 ^ (32 - k)) k p h

means : (k : ℕ) (e : Expansion k) (t : List ℕ) (u : ℕ) → k ≤ 10 → u < 32 → length t ≡ 2 ^ k → binary t ≡ true
    → (p : ℕ) → p < length t → covering (p + 2 ^ 32 * u) (products k e t (start_of u)) % 2 ≡ get_or t p 0
means k e t u le hu len bits p h =
    let small : 2 ^ k ≤ 2 ^ 32 = let l : k ≤ 32 = omega arith in pow_mono l in
    parity k e t (start_of u) (p + 2 ^ 32 * u) (omega arith) len (binary_at t bits) (λ i l. start_free u i (omega arith))
    ∙ cond-true _ _ _ (start_covers u p hu (omega arith))
    ∙ ap (λ n. get_or t n 0) (low_bits k p u (omega arith) (omega arith))

-- ---- the whole answer, once three questions were passed

module _ (k : ℕ) (t : List ℕ) (u : ℕ) (l : List Cube) (ins : inputs_of (length t) ≡ Some k) (bits : binary t ≡ true) (hu : u < 32) where
  asked_last : expansion_of t u (length l) ≡ cond (leb (needed k t) (length l)) (Ok (chosen_products k t (start_of u))) (Err Room)
  asked_last = ap (λ o. asked o t u (length l)) ins ∙ cond-true _ _ _ bits ∙ cond-true _ _ _ (lt-ltb u 32 hu)

  pub table_length : (k ≤ 10) × (length t ≡ 2 ^ k)
  table_length = let f = exponent_found 11 (length t) k ins in (let h = f.0 in omega arith, f.1)

  pub placed : (n : ℕ) (t' : List ℕ) (l' : List Cube) → needed k t ≤ length l → n ≡ needed k t → t' ≡ t
      → l' ≡ chosen_products k t (start_of u) ++ drop (needed k t) l → Expanded t u l (Ok n) t' l'
  placed n t' l' h en et el =
      let ps = chosen_products k t (start_of u) in
      let e = asked_last ∙ cond-true _ _ _ (le-leb (needed k t) (length l) h) in
      let long : length ps ≡ needed k t = length_products k (chosen k t) t (start_of u) in
      let count : n ≡ length ps = omega arith in
      let list : l' ≡ ps ++ drop (length ps) l = el ∙ ap (λ m. ps ++ drop m l) (sym long) in
      let len = table_length.1 in
      record {
        answer = ap Ok count ∙ sym (ap counted e);
        table = et;
        list = list ∙ sym (ap (λ r. filled r l) e);
        fewest = λ j x at. subst (λ (m : ℕ). m ≤ length (products j x t (start_of u))) (sym (count ∙ long)) (none_fewer k t (start_of u) len j x at);
        meaning = λ p hp.
            ap (λ m. covering (p + 2 ^ 32 * u) m % 2) (ap (take n) list ∙ take_at ps (drop (length ps) l) n (sym count))
            ∙ means k (chosen k t) t u table_length.0 hu len bits p hp;
      }
