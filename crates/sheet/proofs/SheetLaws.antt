-- The rows of a whole sheet.
-- Assumes nothing.
use Rattle.std.proofs.Common.{◌≡◌, ℕ, ◌+◌, ◌*◌, ◌<◌, ◌≤◌, List, [], ◌∷◌, ◌++◌, length, get_or, take, sym, ap, ◌∙◌, mul-le-mul_right, suc-mul, zero-mul, arith, length-append}
use Rattle.std.specs.List.{flat_map}
use Rattle.std.proofs.lemmas.List.{flat_map_more, take_more, take_all, length-take-le}
use Rattle.cube.specs.declared.cube.Cube.{Cube}
use Rattle.sheet.specs.declared.pen.Pen.{Pen}
use Rattle.sheet.specs.Pens.{Room, Wrote}
use Rattle.sheet.specs.Text.{heading_text, row_text, end_text, sheet_text}
use Rattle.sheet.proofs.PenLaws.{wrote_same, wrote_then}
use Rattle.sheet.proofs.PutLaws.{row_length}

pub rows_length : (i o : ℕ) (cs : List Cube) → length (flat_map (row_text i o) cs) ≡ length cs * (i + o + 2)
rows_length i o [] = sym (zero-mul (i + o + 2))
rows_length i o (c ∷ cs) =
    let e = length-append (row_text i o c) (flat_map (row_text i o) cs) in
    let f = row_length i o c in
    let g = rows_length i o cs in
    let h = suc-mul (length cs) (i + o + 2) in
    omega arith

pub sheet_length : (i o : ℕ) (cs : List Cube) → length (sheet_text i o cs) ≡ length (heading_text i o (length cs)) + length cs * (i + o + 2) + 3
sheet_length i o cs =
    let e = length-append (heading_text i o (length cs) ++ flat_map (row_text i o) cs) end_text in
    let f = length-append (heading_text i o (length cs)) (flat_map (row_text i o) cs) in
    let g = rows_length i o cs in
    omega arith

-- the text of the rows with one more
joined_next : {X : Type 0} (f : X → List ℕ) (xs : List X) (k : ℕ) (x : X) → k < length xs → x ≡ get_or xs k x → flat_map f (take k xs) ++ f x ≡ flat_map f (take (k + 1) xs)
joined_next f xs k x lt e = flat_map_more f [] (take k xs) x ∙ ap (flat_map f) (ap (λ y. take k xs ++ y ∷ []) e ∙ sym (take_more xs k x lt))

module _ (i o : ℕ) (cs : List Cube) where
  abbrev pub rows_text : ℕ → List ℕ
  rows_text k = flat_map (row_text i o) (take k cs)

  -- the heading tells n rows
  pub sheet_length_told : (n : ℕ) → length cs ≡ n → length (sheet_text i o cs) ≡ length (heading_text i o n) + length cs * (i + o + 2) + 3
  sheet_length_told n count =
      let e = sheet_length i o cs in
      let h = ap (λ k. length (heading_text i o k)) count in
      omega arith

  pub rows_next : {p q r : Pen} (k : ℕ) (c : Cube) → p.at ≤ length p.memory.now → k < length cs → c ≡ get_or cs k c → Wrote p (rows_text k) q
      → Wrote q (row_text i o c) r → Wrote p (rows_text (k + 1)) r
  rows_next k c le lt at a b =
      wrote_same (rows_text k ++ row_text i o c) (rows_text (k + 1)) (joined_next (row_text i o) cs k c lt at) (wrote_then (rows_text k) (row_text i o c) le a b)

  -- where all rows fit, the next one does
  pub row_room : {p q : Pen} (k : ℕ) (c : Cube) → k < length cs → p.at + length cs * (i + o + 2) ≤ length p.memory.now → Wrote p (rows_text k) q
      → Room q (row_text i o c)
  row_room k c lt room a =
      let w = i + o + 2 in
      let e = row_length i o c in
      let b = rows_length i o (take k cs) in
      let d = ap (λ x. x * w) (length-take-le k cs (omega arith)) in
      let m = mul-le-mul_right w lt in
      let f = suc-mul k w in
      let past = a.put.past in
      let size = a.size in
      omega arith

  -- the heading of n rows, the rows and the end
  pub sheet_wrote : {p q r s : Pen} (n k : ℕ) → length cs ≡ n → length cs ≤ k → p.at ≤ length p.memory.now → q.at ≤ length q.memory.now
      → Wrote p (heading_text i o n) q → Wrote q (rows_text k) r → Wrote r end_text s → Wrote p (sheet_text i o cs) s
  sheet_wrote n k count le start room a b e =
      let heading = heading_text i o (length cs) in
      let rows = flat_map (row_text i o) cs in
      wrote_then (heading ++ rows) end_text start
      (wrote_then heading rows start (wrote_same _ heading (ap (heading_text i o) (sym count)) a)
      (wrote_same _ rows (ap (flat_map (row_text i o)) (take_all k cs le)) b))
      e
