-- The line of a refusal, a text that is written only where it fits, and what a program prints.
use Rattle.std.specs.Prelude.{◌≡◌, ℕ, ◌≤◌, cond, List, ◌++◌, length, Some, None, Ok, Err, codes, Option, Result}
use Rattle.sheet.specs.Text.{decimal, line}
use Rattle.sheet.specs.Writing.{written, has_room}

unfoldable pub refusal_text : ℕ → List ℕ
refusal_text n = line (codes "refused " ++ decimal n)

-- a text that fits goes to the memory's start, and its length is answered; any other leaves the memory as it was
abbrev pub length_within : List ℕ → List ℕ → Option ℕ
length_within m t = cond (has_room m 0 t) (Some (length t)) None

abbrev pub kept_within : List ℕ → List ℕ → List ℕ
kept_within m t = cond (has_room m 0 t) (written m 0 t) m

-- A text for a program to print, or a refusal: the length of the text or the refusal is answered, the text goes to the memory's start, and a refusal
-- leaves the memory as it was.
abbrev pub length_or : {E : Type 0} → Result (List ℕ) E → Result ℕ E
length_or (Ok text) = Ok (length text)
length_or (Err why) = Err why

abbrev pub memory_or : {E : Type 0} → Result (List ℕ) E → List ℕ → List ℕ
memory_or (Ok text) m = written m 0 text
memory_or (Err why) m = m

abbrev pub Fits : {E : Type 0} → Result (List ℕ) E → List ℕ → Type 0
Fits (Ok text) m = length text ≤ length m
Fits (Err why) m = Unit {0}

-- the text, if there is one, fits the memory m and was written; r is the answer and m' what the memory holds
pub record Answered {E : Type 0} (text : Result (List ℕ) E) (m : List ℕ) (r : Result ℕ E) (m' : List ℕ) : Type 0 where
  pub answer : r ≡ length_or text
  pub memory : m' ≡ memory_or text m
  pub fits : Fits text m

-- the bytes that are printed: the text, or the line of the refusal
abbrev pub printed_by : {E : Type 0} → (E → ℕ) → Result (List ℕ) E → List ℕ
printed_by number (Ok text) = text
printed_by number (Err why) = refusal_text (number why)

-- what is printed of an answer, and what the memory holds: the text of that length at its start, or the line of the refusal
abbrev pub answer_length : {E : Type 0} → (E → ℕ) → Result ℕ E → List ℕ → Option ℕ
answer_length number (Ok len) m = Some len
answer_length number (Err why) m = length_within m (refusal_text (number why))

abbrev pub answer_memory : {E : Type 0} → (E → ℕ) → Result ℕ E → List ℕ → List ℕ
answer_memory number (Ok len) m = m
answer_memory number (Err why) m = kept_within m (refusal_text (number why))

-- Whichever text was answered by r from whichever memory m, which left the memory n: that text is printed, or the line of its refusal. q is what is answered
-- then, and n' what the memory holds.
abbrev pub PrintsAnswered : {E : Type 0} → (E → ℕ) → Result ℕ E → List ℕ → Option ℕ → List ℕ → Type 0
PrintsAnswered {E} number r n q n' =
    (text : Result (List ℕ) E) (m : List ℕ) → Answered text m r n
    → (q ≡ length_within m (printed_by number text)) × (n' ≡ kept_within m (printed_by number text))
