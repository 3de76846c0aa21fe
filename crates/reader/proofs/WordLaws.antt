-- The words of a row, for the loops that read it from its end.
-- Assumes nothing.
use Rattle.std.proofs.Common.{◌≡◌, ℕ, zero, suc, ◌+◌, ◌-◌, ◌*◌, ◌^◌, ◌<◌, ◌≤◌, eqb, List, [], ◌∷◌, length, get_or, drop, Some, None, Option, sym, refl, ap, ◌∙◌, subst, pow-suc, arith}
use Rattle.std.proofs.lemmas.Bool.{cond_both}
use Rattle.std.proofs.lemmas.List.{at_drop_more, get_or-reverse, get_or_default, length-reverse}
use Rattle.std.proofs.lemmas.Iterator.Adapters.{YieldsList-from_rev_slice}
use Rattle.std.specs.Iterator.Adapters.{rev_source, rev_steps}
use Rattle.std.specs.Slice.Iter.{iter_rest, iter_steps_back}
use Rattle.std.specs.declared.iter.Rev.{Rev}
use Rattle.std.specs.declared.slice.Iter.{Iter}
use denote.Ref.{Bor}
use Rattle.std.proofs.lemmas.Iterator.Consumers.{YieldsList-turn}
use Rattle.std.specs.Iterator.{Yields}
use Rattle.reader.specs.Rows.{form_bits, driven_bit, under, below, forms_over, driven_word}

-- one character more at the front
pub forms_more : (n : ℕ) (cs : List ℕ) (i z o v w : ℕ) → 0 < i → i ≤ length cs → form_bits (get_or cs (i - 1) 0) ≡ Some (z, o)
    → forms_over n (drop i cs) ≡ Some (v, w) → forms_over n (drop (i - 1) cs) ≡ Some (v * 2 + z, w * 2 + o)
forms_more n cs i z o v w pos le e r =
    let q : i - 1 + 1 ≡ i = omega arith in
    let a : z + 2 * v ≡ v * 2 + z = omega arith in
    let b : o + 2 * w ≡ w * 2 + o = omega arith in
    at_drop_more (forms_over n) cs (i - 1) 0 (omega arith)
    ∙ (λ j. under (e j) ((ap (λ m. forms_over n (drop m cs)) q ∙ r) j)) ∙ (λ j. Some (a j, b j))

under_none : (f : Option (ℕ × ℕ)) → under f None ≡ None
under_none None = refl
under_none (Some f) = refl

below_none : (d : Option ℕ) → below d None ≡ None
below_none None = refl
below_none (Some d) = refl

-- another character spoils the row
pub forms_bad : (n : ℕ) (cs : List ℕ) (i : ℕ) → i < length cs → form_bits (get_or cs i 0) ≡ None → forms_over n cs ≡ None
forms_bad n [] i h e = absurd (omega arith)
forms_bad n (c ∷ cs) zero h e = ap (λ f. under f (forms_over n cs)) e
forms_bad n (c ∷ cs) (suc i) h e = ap (under (form_bits c)) (forms_bad n cs i (omega arith) e) ∙ under_none (form_bits c)

pub driven_bad : (cs : List ℕ) (i : ℕ) → i < length cs → driven_bit (get_or cs i 0) ≡ None → driven_word cs ≡ None
driven_bad [] i h e = absurd (omega arith)
driven_bad (c ∷ cs) zero h e = ap (λ d. below d (driven_word cs)) e
driven_bad (c ∷ cs) (suc i) h e = ap (below (driven_bit c)) (driven_bad cs i (omega arith) e) ∙ below_none (driven_bit c)

-- one bit more at the bottom of a word of 32 - i bits
pub word_fits : (i w b : ℕ) → 0 < i → i ≤ 32 → w < 2 ^ (32 - i) → b < 2 → w * 2 + b < 2 ^ (32 - (i - 1))
word_fits i w b pos le h hb =
    let e : 32 - (i - 1) ≡ suc (32 - i) = omega arith in
    let p = ap (λ (m : ℕ). 2 ^ m) e ∙ pow-suc 2 (32 - i) in
    omega arith

-- the bits of a character
abbrev Bits : Option (ℕ × ℕ) → Type 0
Bits None = Unit {0}
Bits (Some f) = (f.0 < 2) × (f.1 < 2)

form_is_bits : (c : ℕ) → Bits (form_bits c)
form_is_bits c =
    cond_both (eqb c 48) _ _ Bits (λ _. (omega arith, omega arith))
    (λ _. cond_both (eqb c 49) _ _ Bits (λ _. (omega arith, omega arith))
    (λ _. cond_both (eqb c 45) _ _ Bits (λ _. (omega arith, omega arith)) (λ _. tt)))

pub form_bits_below : (c z o : ℕ) → form_bits c ≡ Some (z, o) → (z < 2) × (o < 2)
form_bits_below c z o e = subst Bits e (form_is_bits c)

-- a character that a reading from the end comes to spoils the row too
pub driven_bad_turn : (cs : List ℕ) (s : Rev (Iter ℕ)) → iter_rest (rev_source s) ≡ cs → (xs : List (Bor ℕ)) (t : Rev (Iter ℕ)) → Yields (rev_steps iter_steps_back) s xs t
    → (r : Option (Bor ℕ)) (u : Rev (Iter ℕ)) (x : Bor ℕ) → r ≡ Some x → rev_steps iter_steps_back t r u → driven_bit x.now ≡ None → driven_word cs ≡ None
driven_bad_turn cs s rest xs t y r u x is step bad =
    let m = YieldsList-turn (YieldsList-from_rev_slice cs rest) xs t y r u x is step in
    let n = length-reverse cs in
    driven_bad cs (length cs - 1 - length xs) (omega arith)
    (ap driven_bit (sym (m.1 ∙ get_or-reverse cs (length xs) _ (omega arith) ∙ get_or_default cs _ _ 0 (omega arith))) ∙ bad)
