-- The rows of a text that is accepted spell its products.
-- Assumes nothing.
use Rattle.std.proofs.Common.{◌≡◌, ℕ, suc, ◌+◌, ◌-◌, ◌^◌, ◌<◌, ◌≤◌, true, false, not, ◌&&◌, ◌||◌, eqb, ltb, leb, List, [], ◌∷◌, ◌++◌, map, length, get_or, take, drop, Some, None, Ok, Err, codes, Option, Result, sym, refl, ap, ◌∙◌, subst, ap₂, ⊎_elim, arith}
use Rattle.std.proofs.Math.Pow.{pow_mono}
use Rattle.std.proofs.lemmas.List.{take-append-drop, drop_more}
use Rattle.std.proofs.lemmas.Bool.{cond-true, cond-false, cond_both, cases_lt, cases_Bool, lt-ltb, le-leb, ltb-true, leb-true, eqb-true, eq-eqb, and_from, and_parts, or_left, or_right}
use Rattle.std.specs.Str.{bytes_eq}
use Rattle.cube.specs.Bit.{bit}
use Rattle.cube.specs.Cubes.{words_of, has_forms, has_output, form_of, driven}
use Rattle.cube.specs.declared.cube.Cube.{Cube}
use Rattle.cube.specs.declared.cube.Form.TheVariants.{Absent}
use Rattle.cube.specs.BitLaws.{bit_mask}
use Rattle.cube.specs.MakingLaws.{made_words}
use Rattle.sheet.specs.Text.{row_text, line, chars, input_chars, output_chars, absent, keeps_at, keeps_to}
use Rattle.sheet.specs.Writing.{all_keep}
use Rattle.sheet.specs.declared.heading.Heading.{Heading}
use Rattle.reader.specs.declared.state.ReadRefusal.{ReadRefusal}
use Rattle.reader.specs.declared.state.Refused.{Refused}
use Rattle.reader.specs.declared.state.State.TheVariants.{Inputs}
use Rattle.reader.specs.Accepted.{row_lines, Accepted}
use Rattle.reader.specs.Back.{all_words}
use Rattle.reader.specs.Lines.{Shown, skipped, number, kind, end, dotted, row, plain, pieces, up_to, row_of, word_of, is_letter, dotted_of, class_of}
use Rattle.reader.specs.Reading.{Sheet, verdict, read}
use Rattle.reader.specs.Rows.{form_words, driven_word, made_row, row_of_words, as_long, product_of}
use Rattle.esop.proofs.Everywhere.{everywhere_all}
use Rattle.reader.proofs.SpellLaws.{forms_char, word_char, FormsAre, WordIs, forms_read, bit_above, word_read, input_chars_are, output_chars_are}
use Rattle.reader.proofs.StepLaws.{IsRow, AreRows, Right, Then, judged_right}

-- a row is its two parts with a space between
abbrev Cut : List ℕ → Shown → Type 0
Cut l skipped = Unit {0}
Cut l (number n p) = Unit {0}
Cut l kind = Unit {0}
Cut l end = Unit {0}
Cut l dotted = Unit {0}
Cut l (row is os) = l ≡ is ++ 32 ∷ os
Cut l plain = Unit {0}

at_upto : (b : ℕ) (l : List ℕ) → up_to b l < length l → get_or l (up_to b l) 0 ≡ b
at_upto b [] h = absurd (omega arith)
at_upto b (c ∷ cs) h =
    ⊎_elim (λ t. ap (λ n. get_or (c ∷ cs) n 0) (cond-true _ _ _ t) ∙ eqb-true c b t)
    (λ f.
    let e : up_to b (c ∷ cs) ≡ suc (up_to b cs) = cond-false _ _ _ f in
    ap (λ n. get_or (c ∷ cs) n 0) e ∙ at_upto b cs (omega arith))
    (cases_Bool (eqb c b))

row_cut : (l : List ℕ) → Cut l (row_of l)
row_cut l =
    cond_both (ltb (up_to 32 l) (length l)) _ _ (Cut l)
    (λ e.
    let lt = ltb-true (up_to 32 l) (length l) e in
    sym (take-append-drop (up_to 32 l) l) ∙ ap (λ x. take (up_to 32 l) l ++ x) (drop_more l (up_to 32 l) 0 lt)
    ∙ ap (λ x. take (up_to 32 l) l ++ x ∷ drop (up_to 32 l + 1) l) (at_upto 32 l lt))
    (λ _. tt)

word_cut : (m l : List ℕ) → Cut m (word_of l)
word_cut m l =
    cond_both (bytes_eq l (codes "type esop")) _ _ (Cut m) (λ _. tt) (λ _. cond_both (bytes_eq l (codes "e")) _ _ (Cut m) (λ _. tt) (λ _. tt))

dotted_cut : (m l : List ℕ) → Cut m (dotted_of l)
dotted_cut m [] = tt
dotted_cut m (c ∷ cs) = cond_both (is_letter c) _ _ (Cut m) (λ _. tt) (λ _. word_cut m (c ∷ cs))

class_cut : (l : List ℕ) → Cut l (class_of l)
class_cut [] = tt
class_cut (c ∷ cs) =
    cond_both (eqb c 35) _ _ (Cut (c ∷ cs)) (λ _. tt)
    (λ _. cond_both (eqb c 46) _ _ (Cut (c ∷ cs)) (λ _. dotted_cut (c ∷ cs) cs) (λ _. row_cut (c ∷ cs)))

-- the words of a product that is read from a row
pub record WordsAre (i o : ℕ) (is os : List ℕ) (c : Cube) : Type 0 where
  pub long : as_long i o is os ≡ true
  pub forms : FormsAre (2 ^ (32 - length is) - 1) is c.zeros c.ones
  pub word : WordIs os c.outputs

abbrev Made : ℕ → ℕ → List ℕ → List ℕ → Result Cube ReadRefusal → Type 0
Made i o is os (Ok c) = WordsAre i o is os c
Made i o is os (Err e) = Unit {0}

abbrev FormsOf : List ℕ → Option (ℕ × ℕ) → Type 0
FormsOf is None = Unit {0}
FormsOf is (Some w) = FormsAre (2 ^ (32 - length is) - 1) is w.0 w.1

abbrev WordOf : List ℕ → Option ℕ → Type 0
WordOf os None = Unit {0}
WordOf os (Some u) = WordIs os u

words_made : (i o : ℕ) (is os : List ℕ) → as_long i o is os ≡ true → (f : Option (ℕ × ℕ)) (d : Option ℕ) → FormsOf is f → WordOf os d → Made i o is os (row_of_words f d)
words_made i o is os l None d p q = tt
words_made i o is os l (Some w) None p q = tt
words_made i o is os l (Some w) (Some u) p q =
    let v = words_of w.0 w.1 u in
    cond_both (has_forms v) _ _ (λ x. Made i o is os (made_row x))
    (λ e. cond_both (has_output v) _ _ (λ x. Made i o is os (made_row x))
    (λ g.
    let same = sym (made_words v (eqb-true _ _ e) (ltb-true _ _ g)) in
    record {
      long = l;
      forms = subst (λ x. FormsAre (2 ^ (32 - length is) - 1) is x.zeros x.ones) same p;
      word = subst (λ x. WordIs os x.outputs) same q;
    })
    (λ _. tt))
    (λ _. tt)

product_made : (i o : ℕ) (is os : List ℕ) → Made i o is os (product_of i o is os)
unfolding product_of
product_made i o is os =
    cond_both (as_long i o is os) _ _ (Made i o is os)
    (λ e. words_made i o is os e (form_words is) (driven_word os) (forms_read (2 ^ (32 - length is) - 1) is) (word_read os)) (λ _. tt)

-- what the lengths say
long_parts : (i o : ℕ) (is os : List ℕ) → as_long i o is os ≡ true → (length is ≡ i) × (length os ≡ o) × (i ≤ 32) × (o ≤ 32)
long_parts i o is os e =
    let p = and_parts (eqb (length is) i && eqb (length os) o) (leb i 32 && leb o 32) e in
    let q = and_parts (eqb (length is) i) (eqb (length os) o) p.0 in
    let r = and_parts (leb i 32) (leb o 32) p.1 in
    (eqb-true _ _ q.0, eqb-true _ _ q.1, leb-true _ _ r.0, leb-true _ _ r.1)

spelled_line : (i o : ℕ) (is os : List ℕ) (c : Cube) → WordsAre i o is os c → line (is ++ 32 ∷ os) ≡ row_text i o c
unfolding row_text
spelled_line i o is os c w =
    let p = long_parts i o is os w.long in
    let a : input_chars c i ≡ is = input_chars_are c i p.2 ∙ ap (chars (forms_char c.zeros c.ones)) (sym p.0) ∙ w.forms.spelled in
    let b : output_chars c o ≡ os = output_chars_are c o p.3 ∙ ap (chars (word_char c.outputs)) (sym p.1) ∙ w.word.spelled in
    ap₂ (λ x y. line (x ++ 32 ∷ y)) (sym a) (sym b)

-- a row says nothing of what lies past its characters
row_keeps_at : (i o : ℕ) (is os : List ℕ) (c : Cube) → WordsAre i o is os c → (j : ℕ) → j < 32 → keeps_at i o c j ≡ true
row_keeps_at i o is os c w j lt =
    and_from (ltb j i || absent (form_of c j)) (ltb j o || not (driven c j))
    (⊎_elim (λ (l : j < i). or_left (ltb j i) (absent (form_of c j)) (lt-ltb j i l)) (λ (l : i ≤ j). or_right (ltb j i) (absent (form_of c j)) (ap absent (form_past l))) (cases_lt j i))
    (⊎_elim (λ (l : j < o). or_left (ltb j o) (not (driven c j)) (lt-ltb j o l)) (λ (l : o ≤ j). or_right (ltb j o) (not (driven c j)) (ap not (driven_past l))) (cases_lt j o))
  where
    p : (length is ≡ i) × (length os ≡ o) × (i ≤ 32) × (o ≤ 32)
    p = long_parts i o is os w.long

    form_past : i ≤ j → form_of c j ≡ Absent
    form_past l =
        let e : length is + (j - length is) ≡ j = let q = p.0 in omega arith in
        let m : bit (2 ^ (32 - length is) - 1) (j - length is) ≡ 1 = let q = p.0 in bit_mask (32 - length is) (j - length is) (omega arith) in
        let z : bit c.zeros j ≡ 1 = ap (bit c.zeros) (sym e) ∙ w.forms.zeros_past (j - length is) ∙ m in
        let n : bit c.ones j ≡ 1 = ap (bit c.ones) (sym e) ∙ w.forms.ones_past (j - length is) ∙ m in
        cond-true _ _ _ (lt-ltb j 32 lt) ∙ cond-true _ _ _ (eq-eqb _ 1 z) ∙ cond-true _ _ _ (eq-eqb _ 1 n)

    driven_past : o ≤ j → driven c j ≡ false
    driven_past l =
        let q = p.1 in
        let z : bit c.outputs j ≡ 0 = bit_above (length os) j c.outputs (omega arith) w.word.within in
        ap₂ ◌&&◌ (lt-ltb j 32 lt) (ap (λ b. eqb b 1) z)

row_keeps_to : (i o : ℕ) (is os : List ℕ) (c : Cube) → WordsAre i o is os c → keeps_to i o c ≡ true
row_keeps_to i o is os c w = everywhere_all (keeps_at i o c) 32 (row_keeps_at i o is os c w)

row_words : (h : Heading) (l : List ℕ) (c : Cube) (r : IsRow h l c) → WordsAre h.inputs h.outputs r.0 r.1 c
row_words h l c r = subst (Made h.inputs h.outputs r.0 r.1) r.3 (product_made h.inputs h.outputs r.0 r.1)

rows_spelled : (h : Heading) (ls : List (List ℕ)) (cs : List Cube) → AreRows h ls cs → map line ls ≡ map (row_text h.inputs h.outputs) cs
rows_spelled h [] [] r = refl
rows_spelled h [] (c ∷ cs) r = absurd r
rows_spelled h (l ∷ ls) [] r = absurd r
rows_spelled h (l ∷ ls) (c ∷ cs) r =
    ap₂ ◌∷◌ (ap line (subst (Cut l) r.0.2 (class_cut l)) ∙ spelled_line h.inputs h.outputs _ _ c (row_words h l c r.0)) (rows_spelled h ls cs r.1)

rows_keep : (h : Heading) (ls : List (List ℕ)) (cs : List Cube) → AreRows h ls cs → all_keep h.inputs h.outputs cs ≡ true
rows_keep h [] [] r = refl
rows_keep h [] (c ∷ cs) r = absurd r
rows_keep h (l ∷ ls) [] r = absurd r
rows_keep h (l ∷ ls) (c ∷ cs) r =
    and_from (keeps_to h.inputs h.outputs c) _ (row_keeps_to h.inputs h.outputs _ _ c (row_words h l c r.0)) (rows_keep h ls cs r.1)

-- its words of outputs have no bit past the characters
row_word : (i o : ℕ) (is os : List ℕ) (c : Cube) → WordsAre i o is os c → c.outputs < 2 ^ 32
row_word i o is os c w =
    let p = long_parts i o is os w.long in
    let few : length os ≤ 32 = omega arith in
    let lt = w.word.within in
    let le : 2 ^ length os ≤ 2 ^ 32 = pow_mono few in
    omega arith

rows_words : (h : Heading) (ls : List (List ℕ)) (cs : List Cube) → AreRows h ls cs → all_words cs ≡ true
rows_words h [] [] r = refl
rows_words h [] (c ∷ cs) r = absurd r
rows_words h (l ∷ ls) [] r = absurd r
rows_words h (l ∷ ls) (c ∷ cs) r =
    and_from (ltb c.outputs (2 ^ 32)) _ (lt-ltb c.outputs (2 ^ 32) (row_word h.inputs h.outputs _ _ c (row_words h l c r.0))) (rows_words h ls cs r.1)

right_spelled : (places : ℕ) (text : List ℕ) (v : Result Sheet Refused) → Then (Right places Inputs (pieces text)) v → Accepted places text v
right_spelled places text (Ok s) r =
    let h = s.heading in
    let f = r.fitting in
    record {
      range =
          and_from _ _ (and_from _ _ (and_from _ _ (and_from _ _ (le-leb 1 h.inputs f.0.0.0) (le-leb h.inputs 32 f.0.0.1))
          (le-leb 1 h.outputs f.0.1.0)) (le-leb h.outputs 32 f.0.1.1)) (le-leb h.rows 960 f.1);
      room = f.2;
      count = r.count;
      keep = rows_keep h (row_lines (pieces text)) s.products r.rows;
      rows = rows_spelled h (row_lines (pieces text)) s.products r.rows;
    }
right_spelled places text (Err e) r = tt

pub read_spelled : (places : ℕ) (text : List ℕ) → Accepted places text (read places text)
read_spelled places text =
    cond_both (leb (length text) 64000) _ _ (Accepted places text)
    (λ _. right_spelled places text (verdict places text) (judged_right places Inputs 1 (pieces text) tt)) (λ _. tt)

-- the words of outputs of the products of a text that is accepted have 32 bits
abbrev pub Worded : Result Sheet Refused → Type 0
Worded (Ok s) = all_words s.products ≡ true
Worded (Err e) = Unit {0}

right_worded : (places : ℕ) (text : List ℕ) (v : Result Sheet Refused) → Then (Right places Inputs (pieces text)) v → Worded v
right_worded places text (Ok s) r = rows_words s.heading (row_lines (pieces text)) s.products r.rows
right_worded places text (Err e) r = tt

pub read_worded : (places : ℕ) (text : List ℕ) → Worded (read places text)
read_worded places text =
    cond_both (leb (length text) 64000) _ _ Worded
    (λ _. right_worded places text (verdict places text) (judged_right places Inputs 1 (pieces text) tt)) (λ _. tt)
