-- What a pen writes.
use Rattle.std.specs.Prelude.{◌≡◌, ℕ, ◌+◌, ◌≤◌, List, length}
use Rattle.sheet.specs.declared.pen.Pen.{Pen}
use Rattle.sheet.specs.Text.{chars}
use Rattle.sheet.specs.Writing.{Put}

-- the text fits what is left of the memory
abbrev pub Room : Pen → List ℕ → Type 0
Room p t = p.at + length t ≤ length p.memory.now

-- the pen q is p after the text t is written: it has the same memory, with the text from p's place on, and stands past it
pub record Wrote (p : Pen) (t : List ℕ) (q : Pen) : Type 0 where
  pub same : q.memory.ghost_name ≡ p.memory.ghost_name
  pub put : Put p.memory.now p.at t q.memory.now q.at
  pub size : length q.memory.now ≡ length p.memory.now

-- the pen q is p after n characters are written, of which the one at j was answered there: r may be where `answers j r`. So where f j is all that may be
-- answered at j, they are the characters of f.
pub record WroteChars (answers : ℕ → ℕ → Type 0) (p : Pen) (n : ℕ) (q : Pen) : Type 0 where
  pub at : q.at ≡ p.at + n
  pub size : length q.memory.now ≡ length p.memory.now
  pub wrote : (f : ℕ → ℕ) → ((j r : ℕ) → answers j r → r ≡ f j) → Wrote p (chars f n) q
