-- The text of a sheet that is written call by call, or at once.
-- Assumes nothing.
use Rattle.std.proofs.Common.{◌≡◌, ℕ, ◌+◌, ◌-◌, ◌≤◌, Bool, true, false, cond, ltb, List, [], ◌∷◌, ◌++◌, length, take, Some, None, Ok, Err, Option, Result, sym, refl, ap, ◌∙◌, ap₂, arith}
use lib.Seq.{paste-zero}
use Rattle.std.proofs.lemmas.List.Edits.{length-paste, take-paste}
use Rattle.std.proofs.lemmas.List.{take_all}
use Rattle.std.proofs.lemmas.Bool.{and_from, leb-true, ltb-true, ltb-false}
use Rattle.std.specs.List.{flat_map}
use Rattle.cube.specs.declared.cube.Cube.{Cube}
use Rattle.sheet.specs.declared.state.Headed.{Headed}
use Rattle.sheet.specs.declared.state.WriteRefusal.{WriteRefusal}
use Rattle.sheet.specs.declared.state.WriteRefusal.TheVariants.{Range, Full, NoRowDue, OutOfHeading, RowsMissing}
use Rattle.sheet.specs.InTurn.{Rows, WrittenInTurn}
use Rattle.sheet.specs.Text.{heading_text, row_text, end_text, sheet_text, keeps_to}
use Rattle.sheet.specs.Writing.{blank, written, Put, has_room, answered, memory_left, in_range, heading_refusal, begun, row_of, row_refusal, continued, row_memory, end_refusal, ended, all_keep, sheet_refusal, sheet_answer, sheet_memory}
use Rattle.sheet.proofs.PutLaws.{put_same, put_put}

-- a call that is accepted asked nothing in vain
answered_ok : {A B : Type 0} (x : Option WriteRefusal) (a u : A) (b : B) → answered x a b ≡ Ok u → (x ≡ None) × (u ≡ a)
answered_ok None a u b e = (refl, let q : u ≡ a = cc in q)
answered_ok (Some why) a u b e = absurd (let z : ◌≡◌ {A = ℕ} 0 1 = cc in omega arith)

first_yes : (b : Bool) (x : Option WriteRefusal) (why : WriteRefusal) → cond b x (Some why) ≡ None → (b ≡ true) × (x ≡ None)
first_yes true x why e = (refl, e)
first_yes false x why e = absurd (let z : ◌≡◌ {A = ℕ} 0 1 = cc in omega arith)

first_no : (b : Bool) (x : Option WriteRefusal) (why : WriteRefusal) → cond b (Some why) x ≡ None → (b ≡ false) × (x ≡ None)
first_no true x why e = absurd (let z : ◌≡◌ {A = ℕ} 0 1 = cc in omega arith)
first_no false x why e = (refl, e)

-- the text that was put to the start of a memory
pub put_start : {m n : List ℕ} {q : ℕ} (t : List ℕ) → Put m 0 t n q → take q n ≡ t
put_start {m} {n} {q} t h =
    ap₂ take h.past h.memory ∙ take-paste m 0 t (length t) (omega arith) (omega arith) ∙ take_all (length t) t (omega arith)

-- the rows in turn, from the sheet s and the memory m to the sheet t and the memory n
pub record RowsWritten (s : Headed) (m : List ℕ) (cs : List Cube) (t : Headed) (n : List ℕ) : Type 0 where
  pub due : s.due ≡ t.due + length cs
  pub keep : all_keep s.heading.inputs s.heading.outputs cs ≡ true
  pub rows : Put m s.at (flat_map (row_text s.heading.inputs s.heading.outputs) cs) n t.at
  pub within : t.at ≤ length n
  pub size : length n ≡ length m

rows_written : (cs : List Cube) (s t : Headed) (m n : List ℕ) → s.at ≤ length m → Rows s m cs t n → RowsWritten s m cs t n
rows_written [] s t m n le r =
    let at = ap (λ x. x.at) r.0 in
    let due = ap (λ x. x.due) r.0 in
    let size = ap length r.1 in
    record {
      due = omega arith;
      keep = refl;
      rows = record { memory = sym r.1 ∙ paste-zero m s.at []; past = omega arith };
      within = omega arith;
      size = omega arith;
    }
rows_written (c ∷ cs) s t m n le r =
    let u = r.0 in
    let row = row_of s c in
    let ok = answered_ok (row_refusal s m c) (continued s c) u s r.1 in
    let due = first_yes (ltb 0 s.due) _ NoRowDue ok.0 in
    let keeps = first_yes (keeps_to s.heading.inputs s.heading.outputs c) _ OutOfHeading due.1 in
    let room = first_yes (has_room m s.at row) _ Full keeps.1 in
    let fits = leb-true _ _ room.0 in
    let some = ltb-true _ _ due.0 in
    let is : row_memory s m c ≡ written m s.at row = ap (λ x. memory_left x m s.at row) ok.0 in
    let long : length (row_memory s m c) ≡ length m = ap length is ∙ length-paste m s.at row (length row) fits (omega arith) in
    let at : u.at ≡ s.at + length row = ap (λ x. x.at) ok.1 in
    let left : u.due ≡ s.due - 1 = ap (λ x. x.due) ok.1 in
    let ins : u.heading.inputs ≡ s.heading.inputs = ap (λ x. x.heading.inputs) ok.1 in
    let outs : u.heading.outputs ≡ s.heading.outputs = ap (λ x. x.heading.outputs) ok.1 in
    let rest = rows_written cs u t (row_memory s m c) n (omega arith) r.2 in
    let more = rest.due in
    let size = rest.size in
    record {
      due = omega arith;
      keep = and_from _ _ keeps.0 (ap₂ (λ a b. all_keep a b cs) (sym ins) (sym outs) ∙ rest.keep);
      rows =
          put_put row (flat_map (row_text s.heading.inputs s.heading.outputs) cs) le (record { memory = is; past = at })
          (put_same _ _ (ap₂ (λ a b. flat_map (row_text a b) cs) ins outs) rest.rows);
      within = rest.within;
      size = omega arith;
    }

-- the text t is that of a sheet of r products cs, which may be written
pub record Text (i o r : ℕ) (cs : List Cube) (t : List ℕ) : Type 0 where
  pub is : t ≡ sheet_text i o cs
  pub range : in_range i o (length cs) ≡ true
  pub keep : all_keep i o cs ≡ true
  pub count : length cs ≡ r

pub text_in_turn : (m n : List ℕ) (i o r len : ℕ) (cs : List Cube) → WrittenInTurn m i o r cs n len → Text i o r cs (take len n)
text_in_turn m n i o r len cs w =
    let head = heading_text i o r in
    let ok = answered_ok (heading_refusal m i o r) (begun i o r) w.first blank w.heading in
    let range = first_yes (in_range i o r) _ Range ok.0 in
    let room = first_yes (has_room m 0 head) _ Full range.1 in
    let fits = leb-true _ _ room.0 in
    let headed : memory_left (heading_refusal m i o r) m 0 head ≡ written m 0 head = ap (λ x. memory_left x m 0 head) ok.0 in
    let long = ap length headed ∙ length-paste m 0 head (length head) fits (omega arith) in
    let at : w.first.at ≡ length head = ap (λ x. x.at) ok.1 in
    let ins : w.first.heading.inputs ≡ i = ap (λ x. x.heading.inputs) ok.1 in
    let outs : w.first.heading.outputs ≡ o = ap (λ x. x.heading.outputs) ok.1 in
    let due : w.first.due ≡ r = ap (λ x. x.due) ok.1 in
    let rows = rows_written cs w.first w.last _ w.rowed (omega arith) w.rows in
    let done = answered_ok (end_refusal w.last w.rowed) (ended w.last) w.closed w.last w.ending in
    let none = first_no (ltb 0 w.last.due) _ RowsMissing done.0 in
    let zero = ltb-false _ _ none.0 in
    let all = rows.due in
    let count : length cs ≡ r = omega arith in
    let text = flat_map (row_text i o) cs in
    let ending : n ≡ written w.rowed w.last.at end_text = w.memory ∙ ap (λ x. memory_left x w.rowed w.last.at end_text) done.0 in
    let past : len ≡ w.last.at + length end_text = w.length ∙ ap (λ x. x.len) done.1 in
    let start : w.first.at ≡ 0 + length head = omega arith in
    let put : Put m 0 (head ++ text ++ end_text) n len =
    put_put (head ++ text) end_text (omega arith)
    (put_put head text (omega arith) (record { memory = headed; past = start })
    (put_same _ _ (ap₂ (λ a b. flat_map (row_text a b) cs) ins outs) rows.rows))
    (record { memory = ending; past = past }) in
    record {
      is = put_start (head ++ text ++ end_text) put ∙ ap (λ k. heading_text i o k ++ text ++ end_text) (sym count);
      range = ap (in_range i o) count ∙ range.0;
      keep = ap₂ (λ a b. all_keep a b cs) (sym ins) (sym outs) ∙ rows.keep;
      count = count;
    }

-- a whole sheet that is accepted
pub at_once_ok : (x : Option WriteRefusal) (n len : ℕ) → ◌≡◌ {A = Result ℕ WriteRefusal} (elim x [ None ↦ Ok n | Some why ↦ Err why ]) (Ok len) → (x ≡ None) × (len ≡ n)
at_once_ok None n len e = (refl, let q : len ≡ n = cc in q)
at_once_ok (Some why) n len e = absurd (let z : ◌≡◌ {A = ℕ} 0 1 = cc in omega arith)

pub text_at_once : (m : List ℕ) (i o len : ℕ) (cs : List Cube) → sheet_answer m i o cs ≡ Ok len → Text i o (length cs) cs (take len (sheet_memory m i o cs))
text_at_once m i o len cs e =
    let text = sheet_text i o cs in
    let ok = at_once_ok (sheet_refusal m i o cs) (length text) len e in
    let range = first_yes (in_range i o (length cs)) _ Range ok.0 in
    let keep = first_yes (all_keep i o cs) _ OutOfHeading range.1 in
    let put : Put m 0 text (sheet_memory m i o cs) len =
    record { memory = ap (λ x. memory_left x m 0 text) ok.0; past = let l = ok.1 in omega arith } in
    record { is = put_start text put; range = range.0; keep = keep.0; count = refl }
