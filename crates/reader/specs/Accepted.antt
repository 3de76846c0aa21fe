-- What holds of every text that is accepted.
use Rattle.std.specs.Prelude.{◌≡◌, ℕ, ◌≤◌, Bool, true, false, cond, not, ◌||◌, List, [], ◌∷◌, map, length, Ok, Err, Result, ◌==◌}
use Rattle.sheet.specs.Text.{row_text, line}
use Rattle.sheet.specs.Writing.{in_range, all_keep}
use Rattle.reader.specs.declared.state.Refused.{Refused}
use Rattle.reader.specs.Lines.{Piece, ended, broken, pieces}
use Rattle.reader.specs.Reading.{Sheet}

-- a line that is neither empty nor a comment, and does not begin with a dot
abbrev pub is_row : List ℕ → Bool
is_row [] = false
is_row (c ∷ cs) = not (c == 35 || c == 46)

-- the rows of a text, in their order
abbrev pub row_lines : List Piece → List (List ℕ)
row_lines [] = []
row_lines (ended l ∷ ps) = cond (is_row l) (l ∷ row_lines ps) (row_lines ps)
row_lines (broken l ∷ ps) = row_lines ps

-- the numbers of the heading are in range, the rows are as many as it tells, the products keep to its inputs and
-- outputs, and each row with its line feed is the text of its product
pub record Spelled (places : ℕ) (text : List ℕ) (s : Sheet) : Type 0 where
  pub range : in_range s.heading.inputs s.heading.outputs s.heading.rows ≡ true
  pub room : s.heading.rows ≤ places
  pub count : length s.products ≡ s.heading.rows
  pub keep : all_keep s.heading.inputs s.heading.outputs s.products ≡ true
  pub rows : map line (row_lines (pieces text)) ≡ map (row_text s.heading.inputs s.heading.outputs) s.products

abbrev pub Accepted : ℕ → List ℕ → Result Sheet Refused → Type 0
Accepted places text (Ok s) = Spelled places text s
Accepted places text (Err e) = Unit {0}
