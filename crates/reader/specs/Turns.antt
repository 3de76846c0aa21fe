-- What each call on a reader comes to.
use Rattle.std.specs.Prelude.{◌≡◌, ℕ, ◌+◌, ◌<◌, Bool, true, false, List, [], ◌∷◌, length, Some, None, Ok, Err, Option, Result}
use Rattle.cube.specs.declared.cube.Cube.{Cube}
use Rattle.sheet.specs.declared.heading.Heading.{Heading}
use Rattle.reader.specs.declared.state.ReadRefusal.{ReadRefusal}
use Rattle.reader.specs.declared.state.Refused.{Refused}
use Rattle.reader.specs.declared.state.ReadRefusal.TheVariants as why
use Rattle.reader.specs.declared.state.State.{State}
use Rattle.reader.specs.declared.state.State.TheVariants as state
use Rattle.reader.specs.declared.line.Line.{Line}
use Rattle.reader.specs.declared.turn.Reader.{Reader}
use Rattle.reader.specs.declared.turn.Turn.{Turn}
use Rattle.reader.specs.declared.turn.Turn.TheVariants as turn
use Rattle.reader.specs.Lines.{Piece, ended, broken, pieces, class_of, shown}
use Rattle.reader.specs.Reading.{Sheet, Step, refused, added, judged}

-- the pieces that a reader has before it
abbrev pub pieces_left : Reader → List Piece
pieces_left r = pieces r.rest.now

-- from r to s the places and the state stay
abbrev pub Kept : Reader → Reader → Type 0
Kept r s = (s.places ≡ r.places) × (s.state ≡ r.state)

-- of the text there is less left
abbrev pub Onward : Reader → Reader → Type 0
Onward r s = length s.rest.now < length r.rest.now

-- the line that is handed out is the first piece, and the reader goes past it
abbrev pub Moved : Reader → Reader → Option (Result Line ReadRefusal) → Type 0
Moved r s (Some (Ok l)) = ((t : List ℕ) × (pieces_left r ≡ ended t ∷ pieces_left s) × (shown l ≡ class_of t)) × Kept r s × Onward r s
Moved r s (Some (Err e)) = (pieces_left r ≡ broken r.rest.now ∷ []) × (e ≡ why.Unended) × Kept r s
Moved r s None = (pieces_left r ≡ []) × Kept r s

-- the answer r of the call, and the state t after it, are those of a step
abbrev pub Follows : State → Result (Option Cube) ReadRefusal → Step → Type 0
Follows t (Ok c) (Ok x) = (t ≡ x.0) × (c ≡ x.1)
Follows t (Ok c) (Err f) = ⊥
Follows t (Err e) (Ok x) = ⊥
Follows t (Err e) (Err f) = e ≡ f

-- what the reader's text comes to from line n on
abbrev pub judged_at : Reader → ℕ → Result Sheet Refused
judged_at r n = judged r.places r.state n (pieces_left r)

-- all is read, and the heading was h
abbrev pub closed : Heading → Result Sheet Refused
closed h = Ok (record { heading = h; products = [] })

-- from r to s a line is read, whichever number it has
abbrev pub Turned : Reader → Reader → Result Turn ReadRefusal → Type 0
Turned r s (Ok turn.Passed) = ((n : ℕ) → judged_at r n ≡ judged_at s (n + 1)) × Onward r s
Turned r s (Ok (turn.Product c)) = ((n : ℕ) → judged_at r n ≡ added (Some c) (judged_at s (n + 1))) × Onward r s
Turned r s (Ok (turn.Ended h)) = (n : ℕ) → judged_at r n ≡ closed h
Turned r s (Err e) = (n : ℕ) → judged_at r n ≡ Err (refused e n)

-- the answer where all lines are read
abbrev pub finished : State → Result Turn ReadRefusal
finished state.Inputs = Err why.NoEnd
finished (state.Outputs i) = Err why.NoEnd
finished (state.Type i o) = Err why.NoEnd
finished (state.Count i o) = Err why.NoEnd
finished (state.Rows h left) = Err why.NoEnd
finished (state.Ended h) = Ok (turn.Ended h)

-- whether a text is accepted
abbrev pub accepted : Result Sheet Refused → Bool
accepted (Ok s) = true
accepted (Err e) = false
