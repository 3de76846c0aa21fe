-- A sheet that is written is read back.
-- Assumes nothing.
use Rattle.std.proofs.Common.{◌≡◌, ℕ, zero, suc, ◌+◌, ◌-◌, ◌*◌, ◌/◌, ◌%◌, ◌^◌, ◌<◌, ◌≤◌, Bool, true, false, not, ◌&&◌, ◌||◌, eqb, ltb, leb, List, [], ◌∷◌, ◌++◌, length, take, drop, Some, Ok, sym, refl, ap, ◌∙◌, ap₂, ⊎_elim, mul-le-mul, arith, lit≤, pow_pos}
use Rattle.std.proofs.lemmas.List.{append_assoc, take_at, drop_at, length-append}
use Rattle.std.proofs.lemmas.Bool.{cond-true, cond-false, cond_both, cases_lt, lt-ltb, le-ltb, le-leb, ne_eqb, eq-eqb, ltb-true, leb-true, and_from, and_parts, false≢true}
use Rattle.std.specs.List.{flat_map}
use Rattle.cube.specs.Bit.{bit}
use Rattle.cube.specs.Cubes.{form_of, driven}
use Rattle.cube.specs.declared.cube.Cube.{Cube}
use Rattle.cube.specs.declared.cube.Form.{Form}
use Rattle.cube.specs.declared.cube.Form.TheVariants.{Negative, Positive, Absent}
use Rattle.cube.specs.BitLaws.{bit_below, by_bit, by_bits, bit_mask}
use Rattle.cube.specs.MakingLaws.{made_is, full_bit, inputs_lt}
use Rattle.sheet.specs.Text.{digit, decimal, line, field, type_text, heading_text, form_char, driven_char, chars, input_chars, output_chars, row_text, end_text, sheet_text, absent, keeps_at, keeps_to}
use Rattle.sheet.specs.Writing.{in_range, all_keep}
use Rattle.sheet.proofs.PutLaws.{chars_length, heading_length}
use Rattle.sheet.proofs.SheetLaws.{sheet_length}
use Rattle.sheet.specs.declared.heading.Heading.{Heading}
use Rattle.reader.specs.declared.state.State.{State}
use Rattle.reader.specs.declared.state.State.TheVariants as state
use Rattle.reader.specs.Back.{all_words, ReadsBack}
use Rattle.reader.specs.Lines.{ended, push, pieces, row, up_to, row_of, class_of}
use Rattle.reader.specs.Numbers.{is_digit, value_from, numeral, within, number_in, wanted, placed}
use Rattle.reader.specs.Reading.{Step, numbered, step, row_added, heading_of, added, then, judged}
use Rattle.reader.specs.Rows.{forms_over, form_words, driven_word, made_row, product_of}
use Rattle.reader.proofs.NumberLaws.{within_in}
use Rattle.reader.proofs.RowLaws.{product_long}
use Rattle.esop.proofs.Everywhere.{everywhere_at}
use Rattle.reader.proofs.SpellLaws.{form_at, zero_bit, forms_back, word_back, input_chars_are, output_chars_are, over_same}

-- a number below 1000
digit_is : (n : ℕ) → is_digit (digit n) ≡ true
digit_is n = and_from _ _ (le-leb 48 (digit n) (omega arith)) (le-leb (digit n) 57 (omega arith))

value_digit : (m n : ℕ) (ds : List ℕ) → value_from m (digit n ∷ ds) ≡ value_from (m * 10 + n % 10) ds
value_digit m n ds =
    let e : m * 10 + (digit n - 48) ≡ m * 10 + n % 10 = omega arith in cond-true _ _ _ (digit_is n) ∙ ap (λ k. value_from k ds) e

numeral_back : (n : ℕ) → n < 1000 → numeral (decimal n) ≡ Some n
unfolding decimal
numeral_back n h =
    ⊎_elim
    (λ (l : n < 10).
    let e : 0 * 10 + n % 10 ≡ n = omega arith in
    ap numeral (cond-true _ _ _ (lt-ltb n 10 l)) ∙ value_digit 0 n [] ∙ ap Some e)
    (λ (g : 10 ≤ n).
    ap numeral (cond-false _ _ _ (le-ltb n 10 g))
    ∙ ⊎_elim
    (λ (l : n < 100).
    let e : (0 * 10 + n / 10 % 10) * 10 + n % 10 ≡ n = omega arith in
    let z : digit (n / 10) ≡ 48 → ⊥ = λ q. omega arith in
    ap numeral (cond-true _ _ _ (lt-ltb n 100 l)) ∙ cond-false _ _ _ (ne_eqb (digit (n / 10)) 48 z)
    ∙ value_digit 0 (n / 10) (digit n ∷ []) ∙ value_digit (0 * 10 + n / 10 % 10) n [] ∙ ap Some e)
    (λ (k : 100 ≤ n).
    let e : ((0 * 10 + n / 100 % 10) * 10 + n / 10 % 10) * 10 + n % 10 ≡ n = omega arith in
    let z : digit (n / 100) ≡ 48 → ⊥ = λ q. omega arith in
    ap numeral (cond-false _ _ _ (le-ltb n 100 k)) ∙ cond-false _ _ _ (ne_eqb (digit (n / 100)) 48 z)
    ∙ value_digit 0 (n / 100) (digit (n / 10) ∷ digit n ∷ []) ∙ value_digit (0 * 10 + n / 100 % 10) (n / 10) (digit n ∷ [])
    ∙ value_digit ((0 * 10 + n / 100 % 10) * 10 + n / 10 % 10) n [] ∙ ap Some e)
    (cases_lt n 100))
    (cases_lt n 10)

number_back : (low high n : ℕ) → low ≤ n → n ≤ high → n < 1000 → wanted (number_in low high (32 ∷ decimal n)) ≡ Ok n
number_back low high n l h k = ap (λ x. wanted (within low high x)) (numeral_back n k) ∙ ap wanted (within_in low high n l h)

abbrev Few : List ℕ → Type 0
Few l = length l ≤ 3

decimal_length : (n : ℕ) → Few (decimal n)
unfolding decimal
decimal_length n =
    cond_both (ltb n 10) _ _ Few (λ _. lit≤ tt) (λ _. cond_both (ltb n 100) _ _ Few (λ _. lit≤ tt) (λ _. lit≤ tt))

-- characters that end no line, part no row and begin neither a comment nor a heading line
pub record Inner (c : ℕ) : Type 0 where
  pub feed : eqb c 10 ≡ false
  pub space : eqb c 32 ≡ false
  pub comment : eqb c 35 ≡ false
  pub dot : eqb c 46 ≡ false

abbrev pub Each : (ℕ → Type 0) → List ℕ → Type 0
Each P [] = Unit {0}
Each P (c ∷ cs) = P c × Each P cs

abbrev pub NoFeed : ℕ → Type 0
NoFeed c = eqb c 10 ≡ false

pub each_append : (P : ℕ → Type 0) (s t : List ℕ) → Each P s → Each P t → Each P (s ++ t)
each_append P [] t a b = b
each_append P (c ∷ cs) t a b = (a.0, each_append P cs t a.1 b)

each_chars : (P : ℕ → Type 0) (f : ℕ → ℕ) (n : ℕ) → ((j : ℕ) → P (f j)) → Each P (chars f n)
unfolding chars
each_chars P f zero h = tt
each_chars P f (suc n) h = each_append P (chars f n) (f n ∷ []) (each_chars P f n h) (h n, tt)

each_feed : (l : List ℕ) → Each Inner l → Each NoFeed l
each_feed [] h = tt
each_feed (c ∷ cs) h = (h.0.feed, each_feed cs h.1)

digit_inner : (n : ℕ) → NoFeed (digit n)
digit_inner n = ne_eqb (digit n) 10 (λ e. omega arith)

decimal_feed : (n : ℕ) → Each NoFeed (decimal n)
unfolding decimal
decimal_feed n =
    cond_both (ltb n 10) _ _ (Each NoFeed) (λ _. (digit_inner n, tt))
    (λ _. cond_both (ltb n 100) _ _ (Each NoFeed) (λ _. (digit_inner (n / 10), (digit_inner n, tt)))
    (λ _. (digit_inner (n / 100), (digit_inner (n / 10), (digit_inner n, tt)))))

form_inner : (f : Form) → Inner (form_char f)
form_inner Negative = record { feed = refl; space = refl; comment = refl; dot = refl }
form_inner Positive = record { feed = refl; space = refl; comment = refl; dot = refl }
form_inner Absent = record { feed = refl; space = refl; comment = refl; dot = refl }

driven_inner : (b : Bool) → Inner (driven_char b)
driven_inner true = record { feed = refl; space = refl; comment = refl; dot = refl }
driven_inner false = record { feed = refl; space = refl; comment = refl; dot = refl }

-- a line before the rest of a text
pieces_line : (l rest : List ℕ) → Each NoFeed l → pieces (l ++ 10 ∷ rest) ≡ ended l ∷ pieces rest
pieces_line [] rest h = refl
pieces_line (c ∷ cs) rest h = cond-false _ _ _ h.0 ∙ ap (push c) (pieces_line cs rest h.1)

pub judged_line : (k : ℕ) (s : State) (n : ℕ) (l rest : List ℕ) (x : Step) → Each NoFeed l → step k s (class_of l) ≡ x
    → judged k s n (pieces (line l ++ rest)) ≡ then x n (λ t. judged k t (n + 1) (pieces rest))
unfolding judged
judged_line k s n l rest x h e =
    ap (λ t. judged k s n (pieces t)) (append_assoc l (10 ∷ []) rest) ∙ ap (judged k s n) (pieces_line l rest h)
    ∙ ap (λ y. then y n (λ t. judged k t (n + 1) (pieces rest))) e

-- the parts of a row
upto_space : (is os : List ℕ) → Each Inner is → up_to 32 (is ++ 32 ∷ os) ≡ length is
upto_space [] os h = refl
upto_space (c ∷ cs) os h = cond-false _ _ _ h.0.space ∙ ap suc (upto_space cs os h.1)

row_parts : (is os : List ℕ) → Each Inner is → row_of (is ++ 32 ∷ os) ≡ row is os
row_parts is os h =
    let l = is ++ 32 ∷ os in
    let e = upto_space is os h in
    let n = length-append is (32 ∷ os) in
    let lt : up_to 32 l < length l = omega arith in
    let past : length is + 1 ≡ length (is ++ 32 ∷ []) = sym (length-append is (32 ∷ [])) in
    cond-true _ _ _ (lt-ltb (up_to 32 l) (length l) lt)
    ∙ ap (λ m. row (take m l) (drop (m + 1) l)) e
    ∙ ap₂ row (take_at is (32 ∷ os) (length is) refl)
    (ap (drop (length is + 1)) (sym (append_assoc is (32 ∷ []) os)) ∙ drop_at (is ++ 32 ∷ []) os (length is + 1) (sym past))

class_row : (is os : List ℕ) → 0 < length is → Each Inner is → class_of (is ++ 32 ∷ os) ≡ row is os
class_row [] os h e = absurd (omega arith)
class_row (c ∷ cs) os h e = cond-false _ _ _ e.0.comment ∙ cond-false _ _ _ e.0.dot ∙ row_parts (c ∷ cs) os e

-- what a product says past the inputs and outputs of the heading
pub absent_bits : (a b : ℕ) → a < 2 → b < 2 → absent (form_at a b) ≡ true → (a ≡ 1) × (b ≡ 1)
absent_bits a b ha hb =
    by_bits (λ x y. absent (form_at x y) ≡ true → (x ≡ 1) × (y ≡ 1)) (λ e. absurd (false≢true e)) (λ e. absurd (false≢true e)) (λ e. absurd (false≢true e)) (λ e. (refl, refl)) a b ha hb

undriven_bit : (a : ℕ) → a < 2 → not (eqb a 1) ≡ true → a ≡ 0
undriven_bit a h = by_bit (λ x. not (eqb x 1) ≡ true → x ≡ 0) (λ e. refl) (λ e. absurd (false≢true e)) a h

module _ (i o : ℕ) (c : Cube) (li : i ≤ 32) (lo : o ≤ 32) (keep : keeps_to i o c ≡ true) where
  past_forms : (j : ℕ) → i ≤ j → j < 32 → (bit c.zeros j ≡ 1) × (bit c.ones j ≡ 1)
  past_forms j le lt =
      let both = and_parts (ltb j i || absent (form_of c j)) (ltb j o || not (driven c j)) (everywhere_at (keeps_at i o c) 32 j lt keep) in
      absent_bits (bit c.zeros j) (bit c.ones j) (bit_below c.zeros j) (bit_below c.ones j)
      (ap absent (sym (cond-true _ _ _ (lt-ltb j 32 lt))) ∙ sym (ap (λ b. b || absent (form_of c j)) (le-ltb j i le)) ∙ both.0)

  pub past_outputs : (j : ℕ) → o ≤ j → j < 32 → bit c.outputs j ≡ 0
  past_outputs j le lt =
      let both = and_parts (ltb j i || absent (form_of c j)) (ltb j o || not (driven c j)) (everywhere_at (keeps_at i o c) 32 j lt keep) in
      undriven_bit (bit c.outputs j) (bit_below c.outputs j)
      (ap (λ b. not (b && eqb (bit c.outputs j) 1)) (sym (lt-ltb j 32 lt)) ∙ sym (ap (λ b. b || not (driven c j)) (le-ltb j o le)) ∙ both.1)

  mask_lt : 2 ^ (32 - i) - 1 < 2 ^ (32 - i)
  mask_lt = let p = pow_pos (32 - i) in omega arith

  forms_of : form_words (input_chars c i) ≡ Some (c.zeros, c.ones)
  forms_of =
      let n : length (input_chars c i) ≡ i = chars_length _ i in
      ap (λ m. forms_over (2 ^ (32 - m) - 1) (input_chars c i)) n ∙ ap (forms_over (2 ^ (32 - i) - 1)) (input_chars_are c i li)
      ∙ forms_back (2 ^ (32 - i) - 1) i c.zeros c.ones
      (over_same c.zeros (2 ^ (32 - i) - 1) i li (inputs_lt c).0 mask_lt (λ k l. (past_forms (i + k) (omega arith) l).0 ∙ sym (bit_mask (32 - i) k (omega arith))))
      (over_same c.ones (2 ^ (32 - i) - 1) i li (inputs_lt c).1 mask_lt (λ k l. (past_forms (i + k) (omega arith) l).1 ∙ sym (bit_mask (32 - i) k (omega arith))))
      (λ j l. full_bit c.zeros c.ones j c.full (omega arith))

  word_of : c.outputs < 2 ^ 32 → driven_word (output_chars c o) ≡ Some c.outputs
  word_of h =
      ap driven_word (output_chars_are c o lo)
      ∙ word_back o c.outputs (over_same c.outputs 0 o lo h (pow_pos (32 - o)) (λ k l. past_outputs (o + k) (omega arith) l ∙ sym (zero_bit k)))

  product_back : c.outputs < 2 ^ 32 → product_of i o (input_chars c i) (output_chars c o) ≡ Ok c
  product_back h =
      let n : length (input_chars c i) ≡ i = chars_length _ i in
      let m : length (output_chars c o) ≡ o = chars_length _ o in
      product_long i o _ _ _ _
      (and_from _ _ (and_from _ _ (eq-eqb _ i n) (eq-eqb _ o m)) (and_from _ _ (le-leb i 32 li) (le-leb o 32 lo)))
      forms_of (word_of h)
      ∙ ap made_row (cond-true _ _ _ (eq-eqb _ _ c.full) ∙ cond-true _ _ _ (lt-ltb 0 c.outputs c.driven) ∙ ap Ok (made_is c))

-- the rows and the end
row_line : (i o : ℕ) (c : Cube) → Each NoFeed (input_chars c i ++ 32 ∷ output_chars c o)
row_line i o c =
    each_append NoFeed (input_chars c i) (32 ∷ output_chars c o)
    (each_feed (input_chars c i) (each_chars Inner _ i (λ j. form_inner (form_of c j))))
    (refl, each_feed (output_chars c o) (each_chars Inner _ o (λ j. driven_inner (driven c j))))

module _ (places : ℕ) (h : Heading) (pos : 1 ≤ h.inputs) (li : h.inputs ≤ 32) (lo : h.outputs ≤ 32) where
  abbrev rows_text : List Cube → List ℕ
  rows_text cs = flat_map (row_text h.inputs h.outputs) cs ++ end_text

  row_taken : (c : Cube) (left : ℕ) → keeps_to h.inputs h.outputs c ≡ true → c.outputs < 2 ^ 32
      → step places (state.Rows h (suc left)) (class_of (input_chars c h.inputs ++ 32 ∷ output_chars c h.outputs)) ≡ Ok (state.Rows h left, Some c)
  row_taken c left keep fits =
      let n : length (input_chars c h.inputs) ≡ h.inputs = chars_length _ h.inputs in
      let e : suc left - 1 ≡ left = omega arith in
      ap (step places (state.Rows h (suc left)))
      (class_row (input_chars c h.inputs) (output_chars c h.outputs) (omega arith) (each_chars Inner _ h.inputs (λ j. form_inner (form_of c j))))
      ∙ cond-false _ _ _ (ne_eqb (suc left) 0 (λ z. omega arith))
      ∙ ap (row_added h (suc left)) (product_back h.inputs h.outputs c li lo keep fits)
      ∙ ap (λ k. Ok (state.Rows h k, Some c)) e

  rows_back : (n : ℕ) (cs : List Cube) → all_keep h.inputs h.outputs cs ≡ true → all_words cs ≡ true
      → judged places (state.Rows h (length cs)) n (pieces (rows_text cs)) ≡ Ok (record { heading = h; products = cs })
  unfolding row_text judged
  rows_back n [] keep fits = refl
  rows_back n (c ∷ cs) keep fits =
      let k = and_parts (keeps_to h.inputs h.outputs c) (all_keep h.inputs h.outputs cs) keep in
      let f = and_parts (ltb c.outputs (2 ^ 32)) (all_words cs) fits in
      ap (λ t. judged places (state.Rows h (suc (length cs))) n (pieces t))
      (append_assoc (row_text h.inputs h.outputs c) (flat_map (row_text h.inputs h.outputs) cs) end_text)
      ∙ judged_line places (state.Rows h (suc (length cs))) n _ (rows_text cs) _ (row_line h.inputs h.outputs c)
      (row_taken c (length cs) k.0 (ltb-true c.outputs (2 ^ 32) f.0))
      ∙ ap (added (Some c)) (rows_back (n + 1) cs k.1 f.1)

-- the heading
text_lines : (i o : ℕ) (cs : List Cube) → sheet_text i o cs ≡ line (field 105 i) ++ (line (field 111 o) ++ (line type_text ++ (line (field 112 (length cs)) ++ (flat_map (row_text i o) cs ++ end_text))))
unfolding heading_text
text_lines i o cs =
    let a = line (field 105 i) in
    let b = line (field 111 o) in
    let t = line type_text in
    let p = line (field 112 (length cs)) in
    let r = flat_map (row_text i o) cs in
    append_assoc (a ++ b ++ t ++ p) r end_text
    ∙ append_assoc (a ++ b ++ t) p (r ++ end_text)
    ∙ append_assoc (a ++ b) t (p ++ (r ++ end_text))
    ∙ append_assoc a b (t ++ (p ++ (r ++ end_text)))

field_feed : (letter n : ℕ) → NoFeed letter → Each NoFeed (field letter n)
field_feed letter n e = (refl, (e, (refl, decimal_feed n)))

type_feed : Each NoFeed type_text
type_feed = (refl, (refl, (refl, (refl, (refl, (refl, (refl, (refl, (refl, (refl, tt))))))))))

pub record Ranges (i o n : ℕ) : Type 0 where
  pub inputs : (1 ≤ i) × (i ≤ 32)
  pub outputs : (1 ≤ o) × (o ≤ 32)
  pub rows : n ≤ 960

pub ranges : (i o n : ℕ) → in_range i o n ≡ true → Ranges i o n
ranges i o n e =
    let p = and_parts (leb 1 i && leb i 32 && leb 1 o && leb o 32) (leb n 960) e in
    let q = and_parts (leb 1 i && leb i 32 && leb 1 o) (leb o 32) p.0 in
    let r = and_parts (leb 1 i && leb i 32) (leb 1 o) q.0 in
    let s = and_parts (leb 1 i) (leb i 32) r.0 in
    record {
      inputs = (leb-true _ _ s.0, leb-true _ _ s.1);
      outputs = (leb-true _ _ r.1, leb-true _ _ q.1);
      rows = leb-true _ _ p.1;
    }

-- from any line on
pub sheet_judged : (places n i o : ℕ) (cs : List Cube) → Ranges i o (length cs) → all_keep i o cs ≡ true → all_words cs ≡ true → length cs ≤ places
    → judged places state.Inputs n (pieces (sheet_text i o cs)) ≡ Ok (record { heading = heading_of i o (length cs); products = cs })
sheet_judged places n i o cs r keep fits room =
    let k = length cs in
    let few = r.rows in
    let rest = flat_map (row_text i o) cs ++ end_text in
    ap (λ t. judged places state.Inputs n (pieces t)) (text_lines i o cs)
    ∙ judged_line places state.Inputs n (field 105 i) _ _ (field_feed 105 i refl)
    (ap (λ x. numbered x (λ k. state.Outputs k)) (number_back 1 32 i r.inputs.0 r.inputs.1 (omega (arith, r.inputs.1))))
    ∙ judged_line places (state.Outputs i) (n + 1) (field 111 o) _ _ (field_feed 111 o refl)
    (ap (λ x. numbered x (λ k. state.Type i k)) (number_back 1 32 o r.outputs.0 r.outputs.1 (omega (arith, r.outputs.1))))
    ∙ judged_line places (state.Type i o) (n + 1 + 1) type_text (line (field 112 k) ++ rest) _ type_feed refl
    ∙ judged_line places (state.Count i o) (n + 1 + 1 + 1) (field 112 k) rest _ (field_feed 112 k refl)
    (ap (λ x. numbered (placed places x) (λ k. state.Rows (heading_of i o k) k)) (number_back 0 960 k (omega arith) few (omega arith))
    ∙ ap (λ x. numbered x (λ k. state.Rows (heading_of i o k) k)) (cond-true _ _ _ (le-leb k places room)))
    ∙ rows_back places (heading_of i o k) r.inputs.0 r.inputs.1 r.outputs.1 (n + 1 + 1 + 1 + 1) cs keep fits

-- the length of a sheet
pub sheet_short : (i o : ℕ) (cs : List Cube) → Ranges i o (length cs) → length (sheet_text i o cs) ≤ 63500
sheet_short i o cs r =
    let n = length cs in
    let a = sheet_length i o cs in
    let b = heading_length i o n in
    let d = decimal_length i in
    let e = decimal_length o in
    let f = decimal_length n in
    let li = r.inputs.1 in
    let lo = r.outputs.1 in
    let w : i + o + 2 ≤ 66 = omega arith in
    let g : n * (i + o + 2) ≤ 960 * 66 = mul-le-mul r.rows w in
    omega arith

pub reads_back : (places : ℕ) → ReadsBack places
reads_back places i o cs range keep fits room =
    let r = ranges i o (length cs) range in
    cond-true _ _ _ (le-leb (length (sheet_text i o cs)) 64000 (let s = sheet_short i o cs r in omega arith)) ∙ sheet_judged places 1 i o cs r keep fits room
