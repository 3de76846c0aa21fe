-- The lines of a text, and what each of them is.
use Rattle.std.specs.Prelude.{◌≡◌, ◌<◌, ℕ, suc, ◌+◌, Bool, cond, ◌||◌, List, [], ◌∷◌, length, take, drop, codes, ◌==◌, nat_lt}
use Rattle.std.specs.Str.{bytes_eq}
use Rattle.reader.specs.declared.line.Line.{Line}
use Rattle.reader.specs.declared.line.Line.TheVariants as line

-- a line that a line feed ends, without it; or what stands after the last line feed
pub data Piece : Type 0 where
  ended : List ℕ → Piece
  broken : List ℕ → Piece

-- the pieces of a text with one character more at its start, which is no line feed
abbrev pub push : ℕ → List Piece → List Piece
push c [] = broken (c ∷ []) ∷ []
push c (ended l ∷ ps) = ended (c ∷ l) ∷ ps
push c (broken l ∷ ps) = broken (c ∷ l) ∷ ps

abbrev pub pieces : List ℕ → List Piece
pieces [] = []
pieces (c ∷ cs) = cond (c == 10) (ended [] ∷ pieces cs) (push c (pieces cs))

-- what a line is, with its parts
pub data Shown : Type 0 where
  -- an empty line, or a comment
  skipped : Shown
  -- a letter of the heading, and what stands after it
  number : ℕ → List ℕ → Shown
  kind : Shown
  end : Shown
  -- another line that begins with a dot
  dotted : Shown
  -- what stands before the first space, and after it
  row : List ℕ → List ℕ → Shown
  -- a line without a space
  plain : Shown

-- how many characters stand before the first b
abbrev pub up_to : ℕ → List ℕ → ℕ
up_to b [] = 0
up_to b (c ∷ cs) = cond (c == b) 0 (suc (up_to b cs))

-- before the first b stands h, and after it t
abbrev pub IsCut : ℕ → List ℕ → List ℕ → List ℕ → Type 0
IsCut b cs h t = (up_to b cs < length cs) × (h ≡ take (up_to b cs) cs) × (t ≡ drop (up_to b cs + 1) cs)

abbrev pub row_of : List ℕ → Shown
row_of cs = cond (nat_lt (up_to 32 cs) (length cs)) (row (take (up_to 32 cs) cs) (drop (up_to 32 cs + 1) cs)) plain

-- by what stands after the dot
abbrev pub word_of : List ℕ → Shown
word_of cs = cond (bytes_eq cs (codes "type esop")) kind (cond (bytes_eq cs (codes "e")) end dotted)

abbrev pub is_letter : ℕ → Bool
is_letter c = c == 105 || (c == 111 || c == 112)

abbrev pub dotted_of : List ℕ → Shown
dotted_of [] = dotted
dotted_of (c ∷ cs) = cond (is_letter c) (number c cs) (word_of (c ∷ cs))

abbrev pub class_of : List ℕ → Shown
class_of [] = skipped
class_of (c ∷ cs) = cond (c == 35) skipped (cond (c == 46) (dotted_of cs) (row_of (c ∷ cs)))

-- a line that the reader hands out, by the characters of its parts
abbrev pub shown : Line → Shown
shown line.Skipped = skipped
shown (line.Inputs p) = number 105 p.now
shown (line.Outputs p) = number 111 p.now
shown (line.Count p) = number 112 p.now
shown line.Type = kind
shown line.End = end
shown line.Dotted = dotted
shown (line.Row i o) = row i.now o.now
shown line.Plain = plain
