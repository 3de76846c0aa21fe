-- Whatever is written as a sheet is read back.
use Rattle.std.specs.Prelude.{◌≡◌, ℕ, ◌^◌, ◌≤◌, Bool, true, ◌&&◌, List, [], ◌∷◌, length, take, Ok, nat_lt}
use Rattle.cube.specs.declared.cube.Cube.{Cube}
use Rattle.sheet.specs.Text.{sheet_text}
use Rattle.sheet.specs.InTurn.{WrittenInTurn}
use Rattle.sheet.specs.Writing.{in_range, all_keep, sheet_answer, sheet_memory}
use Rattle.reader.specs.Accepted.{Accepted}
use Rattle.reader.specs.Reading.{heading_of, read}

-- the word of the outputs of each product has 32 bits, as every product of a program has
abbrev pub all_words : List Cube → Bool
all_words [] = true
all_words (c ∷ cs) = nat_lt c.outputs (2 ^ 32) && all_words cs

-- the text that the writer's definitions give for products that may be written, read into a list that has places for
-- them, is accepted, with the heading that was written and exactly these products in their order
abbrev pub ReadsBack : ℕ → Type 0
ReadsBack places =
    (i o : ℕ) (cs : List Cube) → in_range i o (length cs) ≡ true → all_keep i o cs ≡ true → all_words cs ≡ true → length cs ≤ places
    → read places (sheet_text i o cs) ≡ Ok (record { heading = heading_of i o (length cs); products = cs })

-- the same of what the calls on a sheet leave in a memory: heading, rows in turn and end, or the whole sheet at once
pub record CallsReadBack (places : ℕ) : Type 0 where
  pub in_turn : (m n : List ℕ) (i o r len : ℕ) (cs : List Cube) → WrittenInTurn m i o r cs n len → all_words cs ≡ true → length cs ≤ places
      → read places (take len n) ≡ Ok (record { heading = heading_of i o r; products = cs })
  pub at_once : (m : List ℕ) (i o len : ℕ) (cs : List Cube) → sheet_answer m i o cs ≡ Ok len → all_words cs ≡ true → length cs ≤ places
      → read places (take len (sheet_memory m i o cs)) ≡ Ok (record { heading = heading_of i o (length cs); products = cs })

-- the rows of a text that is accepted spell its products
abbrev pub Spells : ℕ → List ℕ → Type 0
Spells places text = Accepted places text (read places text)
