-- What each line that is right does to the state, and what follows for a text that is accepted.
-- Assumes nothing.
use Rattle.std.proofs.Common.{◌≡◌, ℕ, ◌+◌, ◌<◌, ◌≤◌, Bool, true, false, cond, not, ◌&&◌, ◌||◌, eqb, ltb, leb, List, [], ◌∷◌, length, Some, None, Ok, Err, codes, Option, Result, sym, refl, ap, ◌∙◌, subst, arith}
use Rattle.std.proofs.lemmas.Bool.{cond_both, cond-true, cond-false, and_parts, leb-true, eqb-true, eqb-false}
use Rattle.cube.specs.declared.cube.Cube.{Cube}
use Rattle.sheet.specs.declared.heading.Heading.{Heading}
use Rattle.reader.specs.declared.state.ReadRefusal.{ReadRefusal}
use Rattle.reader.specs.declared.state.Refused.{Refused}
use Rattle.reader.specs.declared.state.State.{State}
use Rattle.reader.specs.declared.state.State.TheVariants as state
use Rattle.reader.specs.Accepted.{is_row, row_lines}
use Rattle.reader.specs.Lines.{Piece, ended, broken, Shown, skipped, number, kind, end, dotted, row, plain, is_letter, row_of, word_of, dotted_of, class_of, up_to}
use Rattle.std.specs.Str.{bytes_eq}
use Rattle.reader.specs.Numbers.{number_in, numeral, within, wanted, placed}
use Rattle.reader.specs.Reading.{Sheet, Step, to, numbered, number_step, type_step, row_added, row_step, step, heading_of, at_end, added, then, judged}
use Rattle.reader.specs.Rows.{product_of}

-- a number from low to high
abbrev Within : ℕ → ℕ → ℕ → Type 0
Within low high n = (low ≤ n) × (n ≤ high)

abbrev Told : (ℕ → Type 0) → Result ℕ ReadRefusal → Type 0
Told P (Ok n) = P n
Told P (Err e) = Unit {0}

within_range : (low high : ℕ) (x : Option ℕ) → Told (Within low high) (wanted (within low high x))
within_range low high None = tt
within_range low high (Some n) =
    cond_both (leb low n && leb n high) _ _ (λ y. Told (Within low high) (wanted y))
    (λ e. let p = and_parts (leb low n) (leb n high) e in (leb-true _ _ p.0, leb-true _ _ p.1)) (λ _. tt)

number_range : (low high : ℕ) (p : List ℕ) → Told (Within low high) (wanted (number_in low high p))
number_range low high [] = tt
number_range low high (c ∷ cs) =
    cond_both (eqb c 32) _ _ (λ y. Told (Within low high) (wanted y)) (λ _. within_range low high (numeral cs)) (λ _. tt)

-- the numbers of the heading are in range, and there is a place for each row
abbrev Widths : ℕ → ℕ → Type 0
Widths i o = Within 1 32 i × Within 1 32 o

abbrev pub Fitting : ℕ → Heading → Type 0
Fitting places h = Widths h.inputs h.outputs × (h.rows ≤ 960) × (h.rows ≤ places)

abbrev pub Valid : ℕ → State → Type 0
Valid places state.Inputs = Unit {0}
Valid places (state.Outputs i) = Within 1 32 i
Valid places (state.Type i o) = Widths i o
Valid places (state.Count i o) = Widths i o
Valid places (state.Rows h left) = Fitting places h
Valid places (state.Ended h) = Fitting places h

-- the heading of a text has what a state has read of it
abbrev pub Agrees : State → Heading → Type 0
Agrees state.Inputs h = Unit {0}
Agrees (state.Outputs i) h = h.inputs ≡ i
Agrees (state.Type i o) h = (h.inputs ≡ i) × (h.outputs ≡ o)
Agrees (state.Count i o) h = (h.inputs ≡ i) × (h.outputs ≡ o)
Agrees (state.Rows g left) h = h ≡ g
Agrees (state.Ended g) h = h ≡ g

-- how many rows are still to come
abbrev pub due : State → Heading → ℕ
due state.Inputs h = h.rows
due (state.Outputs i) h = h.rows
due (state.Type i o) h = h.rows
due (state.Count i o) h = h.rows
due (state.Rows g left) h = left
due (state.Ended g) h = 0

abbrev pub rowish : Shown → Bool
rowish skipped = false
rowish (number l p) = false
rowish kind = false
rowish end = false
rowish dotted = false
rowish (row is os) = true
rowish plain = true

-- a line that adds a product is a row of it, and one that adds none is no row
abbrev pub Adds : Heading → Shown → Option Cube → Type 0
Adds h l None = rowish l ≡ false
Adds h l (Some c) = (is : List ℕ) × (os : List ℕ) × (l ≡ row is os) × (product_of h.inputs h.outputs is os ≡ Ok c)

abbrev count : Option Cube → ℕ
count None = 0
count (Some c) = 1

pub record Link (places : ℕ) (s : State) (l : Shown) (t : State) (c : Option Cube) : Type 0 where
  pub valid : Valid places s → Valid places t
  pub agrees : (h : Heading) → Agrees t h → Agrees s h
  pub rows : (h : Heading) → Agrees t h → due s h ≡ due t h + count c
  pub adds : (h : Heading) → Agrees t h → Adds h l c

abbrev pub Linked : ℕ → State → Shown → Step → Type 0
Linked places s l (Ok x) = Link places s l x.0 x.1
Linked places s l (Err e) = Unit {0}

-- a line that is skipped
stays : (places : ℕ) (s : State) → Linked places s skipped (to s)
stays places s = record { valid = λ v. v; agrees = λ h a. a; rows = λ h a. omega arith; adds = λ h a. refl }

numbered_links : (places letter : ℕ) (s : State) (f : ℕ → State) (P : ℕ → Type 0) (p : List ℕ) (x : Result ℕ ReadRefusal) → Told P x
    → ((n : ℕ) → P n → Link places s (number letter p) (f n) None) → Linked places s (number letter p) (numbered x f)
numbered_links places letter s f P p (Ok n) h k = k n h
numbered_links places letter s f P p (Err e) h k = tt

number_links : (places letter : ℕ) (g : List ℕ → Result ℕ ReadRefusal) (s : State) (f : ℕ → State) (P : ℕ → Type 0) → ((p : List ℕ) → Told P (g p))
    → ((l : ℕ) (p : List ℕ) (n : ℕ) → P n → Link places s (number l p) (f n) None) → (l : Shown) → Linked places s l (number_step letter g s f l)
number_links places letter g s f P told k skipped = stays places s
number_links places letter g s f P told k (number l p) =
    cond_both (eqb l letter) _ _ (Linked places s (number l p)) (λ _. numbered_links places l s f P p (g p) (told p) (k l p)) (λ _. tt)
number_links places letter g s f P told k kind = tt
number_links places letter g s f P told k end = tt
number_links places letter g s f P told k dotted = tt
number_links places letter g s f P told k (row is os) = tt
number_links places letter g s f P told k plain = tt

type_links : (places i o : ℕ) (l : Shown) → Linked places (state.Type i o) l (type_step i o l)
type_links places i o skipped = stays places (state.Type i o)
type_links places i o (number l p) = tt
type_links places i o kind = record { valid = λ v. v; agrees = λ h a. a; rows = λ h a. omega arith; adds = λ h a. refl }
type_links places i o end = tt
type_links places i o dotted = tt
type_links places i o (row is os) = tt
type_links places i o plain = tt

added_links : (places : ℕ) (g : Heading) (left : ℕ) (is os : List ℕ) (x : Result Cube ReadRefusal) → 0 < left → product_of g.inputs g.outputs is os ≡ x
    → Linked places (state.Rows g left) (row is os) (row_added g left x)
added_links places g left is os (Ok c) pos e =
    record {
      valid = λ v. v;
      agrees = λ h a. a;
      rows = λ h a. omega arith;
      adds = λ h a. (is, os, refl, ap (λ k. product_of k.inputs k.outputs is os) a ∙ e);
    }
added_links places g left is os (Err f) pos e = tt

row_links : (places : ℕ) (g : Heading) (left : ℕ) (l : Shown) → Linked places (state.Rows g left) l (row_step g left l)
row_links places g left skipped = stays places (state.Rows g left)
row_links places g left (number l p) = tt
row_links places g left kind = tt
row_links places g left end =
    cond_both (eqb left 0) _ _ (Linked places (state.Rows g left) end)
    (λ e. let z = eqb-true left 0 e in record { valid = λ v. v; agrees = λ h a. a; rows = λ h a. omega arith; adds = λ h a. refl }) (λ _. tt)
row_links places g left dotted = tt
row_links places g left (row is os) =
    cond_both (eqb left 0) _ _ (Linked places (state.Rows g left) (row is os)) (λ _. tt)
    (λ e. let ne = eqb-false left 0 e in added_links places g left is os (product_of g.inputs g.outputs is os) (omega arith) refl)
row_links places g left plain = cond_both (eqb left 0) _ _ (Linked places (state.Rows g left) plain) (λ _. tt) (λ _. tt)

placed_range : (places : ℕ) (x : Result ℕ ReadRefusal) → Told (Within 0 960) x → Told (λ n. (n ≤ 960) × (n ≤ places)) (placed places x)
placed_range places (Ok n) h =
    cond_both (leb n places) _ _ (Told (λ m. (m ≤ 960) × (m ≤ places))) (λ e. (h.1, leb-true n places e)) (λ _. tt)
placed_range places (Err e) h = tt

pub links : (places : ℕ) (s : State) (l : Shown) → Linked places s l (step places s l)
links places state.Inputs l =
    number_links places 105 _ state.Inputs (λ i. state.Outputs i) (Within 1 32) (number_range 1 32)
    (λ a p n w. record { valid = λ _. w; agrees = λ h e. tt; rows = λ h e. omega arith; adds = λ h e. refl }) l
links places (state.Outputs i) l =
    number_links places 111 _ (state.Outputs i) (λ o. state.Type i o) (Within 1 32) (number_range 1 32)
    (λ a p n w. record { valid = λ v. (v, w); agrees = λ h e. e.0; rows = λ h e. omega arith; adds = λ h e. refl }) l
links places (state.Type i o) l = type_links places i o l
links places (state.Count i o) l =
    number_links places 112 _ (state.Count i o) (λ n. state.Rows (heading_of i o n) n) (λ n. (n ≤ 960) × (n ≤ places))
    (λ p. placed_range places (wanted (number_in 0 960 p)) (number_range 0 960 p))
    (λ a p n w. record {
      valid = λ v. (v, w.0, w.1);
      agrees = λ h e. (ap (λ g. g.inputs) e, ap (λ g. g.outputs) e);
      rows = λ h e. let d = ap (λ g. g.rows) e in omega arith;
      adds = λ h e. refl;
    })
    l
links places (state.Rows g left) l = row_links places g left l
links places (state.Ended g) l = tt

-- whether a line is a row
word_rowish : (l : List ℕ) → rowish (word_of l) ≡ false
word_rowish l =
    cond_both (bytes_eq l (codes "type esop")) _ _ (λ x. rowish x ≡ false) (λ _. refl)
    (λ _. cond_both (bytes_eq l (codes "e")) _ _ (λ x. rowish x ≡ false) (λ _. refl) (λ _. refl))

dotted_rowish : (l : List ℕ) → rowish (dotted_of l) ≡ false
dotted_rowish [] = refl
dotted_rowish (c ∷ cs) = cond_both (is_letter c) _ _ (λ x. rowish x ≡ false) (λ _. refl) (λ _. word_rowish (c ∷ cs))

row_rowish : (l : List ℕ) → rowish (row_of l) ≡ true
row_rowish l = cond_both (ltb (up_to 32 l) (length l)) _ _ (λ x. rowish x ≡ true) (λ _. refl) (λ _. refl)

pub class_rowish : (l : List ℕ) → rowish (class_of l) ≡ is_row l
class_rowish [] = refl
class_rowish (c ∷ cs) = go (eqb c 35) (eqb c 46)
  where
    go : (a b : Bool) → rowish (cond a skipped (cond b (dotted_of cs) (row_of (c ∷ cs)))) ≡ not (a || b)
    go true b = refl
    go false true = dotted_rowish cs
    go false false = row_rowish (c ∷ cs)

-- a line is a row of a product, and each line of a list is
abbrev pub IsRow : Heading → List ℕ → Cube → Type 0
IsRow h l c = (is : List ℕ) × (os : List ℕ) × (class_of l ≡ row is os) × (product_of h.inputs h.outputs is os ≡ Ok c)

abbrev pub AreRows : Heading → List (List ℕ) → List Cube → Type 0
AreRows h [] [] = Unit {0}
AreRows h [] (c ∷ cs) = ⊥
AreRows h (l ∷ ls) [] = ⊥
AreRows h (l ∷ ls) (c ∷ cs) = IsRow h l c × AreRows h ls cs

pub record Right (places : ℕ) (s : State) (ps : List Piece) (sheet : Sheet) : Type 0 where
  pub agrees : Agrees s sheet.heading
  pub fitting : Fitting places sheet.heading
  pub count : length sheet.products ≡ due s sheet.heading
  pub rows : AreRows sheet.heading (row_lines ps) sheet.products

abbrev pub Then : (Sheet → Type 0) → Result Sheet Refused → Type 0
Then P (Ok s) = P s
Then P (Err e) = Unit {0}

no_row : (h : Heading) (l : List ℕ) (ls : List (List ℕ)) (cs : List Cube) → rowish (class_of l) ≡ false → AreRows h ls cs → AreRows h (cond (is_row l) (l ∷ ls) ls) cs
no_row h l ls cs e r = subst (λ x. AreRows h x cs) (sym (cond-false (is_row l) (l ∷ ls) ls (sym (class_rowish l) ∙ e))) r

a_row : (h : Heading) (l : List ℕ) (ls : List (List ℕ)) (c : Cube) (cs : List Cube) → IsRow h l c → AreRows h ls cs → AreRows h (cond (is_row l) (l ∷ ls) ls) (c ∷ cs)
a_row h l ls c cs e r =
    subst (λ x. AreRows h x (c ∷ cs)) (sym (cond-true (is_row l) (l ∷ ls) ls (sym (class_rowish l) ∙ ap rowish e.2))) (e, r)

module _ (places : ℕ) (s t : State) (l : List ℕ) (ps : List Piece) where
  line_right : (c : Option Cube) (y : Result Sheet Refused) → Link places s (class_of l) t c → Then (Right places t ps) y → Then (Right places s (ended l ∷ ps)) (added c y)
  line_right None (Ok u) k r =
      let d = k.rows u.heading r.agrees in
      let e = r.count in
      record {
        agrees = k.agrees u.heading r.agrees;
        fitting = r.fitting;
        count = omega arith;
        rows = no_row u.heading l (row_lines ps) u.products (k.adds u.heading r.agrees) r.rows;
      }
  line_right None (Err e) k r = tt
  line_right (Some c) (Ok u) k r =
      let d = k.rows u.heading r.agrees in
      let e = r.count in
      record {
        agrees = k.agrees u.heading r.agrees;
        fitting = r.fitting;
        count = omega arith;
        rows = a_row u.heading l (row_lines ps) c u.products (k.adds u.heading r.agrees) r.rows;
      }
  line_right (Some c) (Err e) k r = tt

step_right : (places : ℕ) (s : State) (l : List ℕ) (ps : List Piece) (n : ℕ) (f : State → Result Sheet Refused) (x : Step) → Linked places s (class_of l) x → Valid places s
    → ((t : State) → Valid places t → Then (Right places t ps) (f t)) → Then (Right places s (ended l ∷ ps)) (then x n f)
step_right places s l ps n f (Ok x) k v rest = line_right places s x.0 l ps x.1 (f x.0) k (rest x.0 (k.valid v))
step_right places s l ps n f (Err e) k v rest = tt

end_right : (places : ℕ) (s : State) (n : ℕ) → Valid places s → Then (Right places s []) (at_end s n)
end_right places state.Inputs n v = tt
end_right places (state.Outputs i) n v = tt
end_right places (state.Type i o) n v = tt
end_right places (state.Count i o) n v = tt
end_right places (state.Rows h left) n v = tt
end_right places (state.Ended h) n v = record { agrees = refl; fitting = v; count = refl; rows = tt }

pub judged_right : (places : ℕ) (s : State) (n : ℕ) (ps : List Piece) → Valid places s → Then (Right places s ps) (judged places s n ps)
unfolding judged
judged_right places s n [] v = end_right places s n v
judged_right places s n (broken l ∷ ps) v = tt
judged_right places s n (ended l ∷ ps) v =
    step_right places s l ps n (λ t. judged places t (n + 1) ps) (step places s (class_of l)) (links places s (class_of l)) v
    (λ t w. judged_right places t (n + 1) ps w)
