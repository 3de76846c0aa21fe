-- What reading a text answers.
use Rattle.std.specs.Prelude.{ℕ, ◌+◌, ◌-◌, cond, List, [], ◌∷◌, ◌++◌, length, drop, codes, Some, None, Ok, Err, Option, Result, ◌==◌, nat_le}
use Rattle.std.specs.Fmt.{decimal}
use Rattle.cube.specs.declared.cube.Cube.{Cube}
use Rattle.sheet.specs.declared.heading.Heading.{Heading}
use Rattle.reader.specs.declared.state.ReadRefusal.{ReadRefusal}
use Rattle.reader.specs.declared.state.ReadRefusal.TheVariants as why
use Rattle.reader.specs.declared.state.Refused.{Refused}
use Rattle.reader.specs.declared.state.State.{State}
use Rattle.reader.specs.declared.state.State.TheVariants as state
use Rattle.reader.specs.Lines.{Piece, ended, broken, pieces, Shown, skipped, number, kind, end, dotted, row, plain, class_of}
use Rattle.reader.specs.Numbers.{number_in, wanted, placed}
use Rattle.reader.specs.Rows.{product_of}

-- the numbers of the refusals
abbrev pub number_of : ReadRefusal → ℕ
number_of why.TooLong = 17
number_of why.Unended = 18
number_of why.NotDue = 19
number_of why.NoEnd = 20
number_of why.Number = 21
number_of why.Malformed = 22
number_of why.NoOutput = 23
number_of why.RowCount = 24
number_of why.FewPlaces = 25

abbrev pub refused : ReadRefusal → ℕ → Refused
refused e n = record { why = e; line = n }

-- the line that tells a refusal
abbrev pub printed : Refused → List ℕ
printed r = codes "refused " ++ decimal (number_of r.why) ++ codes " line " ++ decimal r.line

-- a text that is accepted
pub record Sheet : Type 0 where
  pub heading : Heading
  pub products : List Cube

abbrev pub heading_of : ℕ → ℕ → ℕ → Heading
heading_of i o n = record { inputs = i; outputs = o; rows = n }

-- what a line comes to: the state after it, with the product that it adds, or a refusal
abbrev pub Step : Type 0
Step = Result (State × Option Cube) ReadRefusal

abbrev pub to : State → Step
to s = Ok (s, None)

abbrev pub numbered : Result ℕ ReadRefusal → (ℕ → State) → Step
numbered (Ok n) f = to (f n)
numbered (Err e) f = Err e

-- where a number of the heading is due: its letter, how it is read, the state here and the state after it
abbrev pub number_step : ℕ → (List ℕ → Result ℕ ReadRefusal) → State → (ℕ → State) → Shown → Step
number_step letter g s f skipped = to s
number_step letter g s f (number l p) = cond (l == letter) (numbered (g p) f) (Err why.NotDue)
number_step letter g s f kind = Err why.NotDue
number_step letter g s f end = Err why.NotDue
number_step letter g s f dotted = Err why.NotDue
number_step letter g s f (row is os) = Err why.NotDue
number_step letter g s f plain = Err why.NotDue

-- where the type is due
abbrev pub type_step : ℕ → ℕ → Shown → Step
type_step i o skipped = to (state.Type i o)
type_step i o (number l p) = Err why.NotDue
type_step i o kind = to (state.Count i o)
type_step i o end = Err why.NotDue
type_step i o dotted = Err why.NotDue
type_step i o (row is os) = Err why.NotDue
type_step i o plain = Err why.NotDue

abbrev pub row_added : Heading → ℕ → Result Cube ReadRefusal → Step
row_added h left (Ok c) = Ok (state.Rows h (left - 1), Some c)
row_added h left (Err e) = Err e

-- where a row or the end is due: `left` rows are still to come
abbrev pub row_step : Heading → ℕ → Shown → Step
row_step h left skipped = to (state.Rows h left)
row_step h left (number l p) = Err why.NotDue
row_step h left kind = Err why.NotDue
row_step h left end = cond (left == 0) (to (state.Ended h)) (Err why.RowCount)
row_step h left dotted = Err why.NotDue
row_step h left (row is os) = cond (left == 0) (Err why.RowCount) (row_added h left (product_of h.inputs h.outputs is os))
row_step h left plain = cond (left == 0) (Err why.RowCount) (Err why.Malformed)

abbrev pub rows_due : State → Shown → Step
rows_due state.Inputs l = Err why.NotDue
rows_due (state.Outputs i) l = Err why.NotDue
rows_due (state.Type i o) l = Err why.NotDue
rows_due (state.Count i o) l = Err why.NotDue
rows_due (state.Rows h left) l = row_step h left l
rows_due (state.Ended h) l = Err why.NotDue

-- a line where the reader stands at a state, for a list of so many places
abbrev pub step : ℕ → State → Shown → Step
step places state.Inputs l = number_step 105 (λ p. wanted (number_in 1 32 p)) state.Inputs (λ i. state.Outputs i) l
step places (state.Outputs i) l = number_step 111 (λ p. wanted (number_in 1 32 p)) (state.Outputs i) (λ o. state.Type i o) l
step places (state.Type i o) l = type_step i o l
step places (state.Count i o) l =
    number_step 112 (λ p. placed places (wanted (number_in 0 960 p))) (state.Count i o) (λ n. state.Rows (heading_of i o n) n) l
step places (state.Rows h left) l = row_step h left l
step places (state.Ended h) l = Err why.NotDue

-- with every line ended
abbrev pub at_end : State → ℕ → Result Sheet Refused
at_end state.Inputs n = Err (refused why.NoEnd n)
at_end (state.Outputs i) n = Err (refused why.NoEnd n)
at_end (state.Type i o) n = Err (refused why.NoEnd n)
at_end (state.Count i o) n = Err (refused why.NoEnd n)
at_end (state.Rows h left) n = Err (refused why.NoEnd n)
at_end (state.Ended h) n = Ok (record { heading = h; products = [] })

-- a product before those of what follows
abbrev pub added : Option Cube → Result Sheet Refused → Result Sheet Refused
added None r = r
added (Some c) (Ok s) = Ok (record { heading = s.heading; products = c ∷ s.products })
added (Some c) (Err e) = Err e

-- line n came to a step, and the rest is judged from the state after it
abbrev pub then : Step → ℕ → (State → Result Sheet Refused) → Result Sheet Refused
then (Ok x) n f = added x.1 (f x.0)
then (Err e) n f = Err (refused e n)

-- the pieces from line n on
unfoldable pub judged : ℕ → State → ℕ → List Piece → Result Sheet Refused
judged places s n [] = at_end s n
judged places s n (broken l ∷ ps) = Err (refused why.Unended n)
judged places s n (ended l ∷ ps) = then (step places s (class_of l)) n (λ t. judged places t (n + 1) ps)

abbrev pub verdict : ℕ → List ℕ → Result Sheet Refused
verdict places text = judged places state.Inputs 1 (pieces text)

-- what reading a text into a list of so many places comes to
abbrev pub read : ℕ → List ℕ → Result Sheet Refused
read places text = cond (nat_le (length text) 64000) (verdict places text) (Err (refused why.TooLong 0))

-- what the call answers
abbrev pub told : Result Sheet Refused → Result Heading Refused
told (Ok s) = Ok s.heading
told (Err e) = Err e

-- what the list holds after it: the products from its start on, and past them what it held
abbrev pub stored : List Cube → Result Sheet Refused → List Cube
stored list (Ok s) = s.products ++ drop (length s.products) list
stored list (Err e) = list
