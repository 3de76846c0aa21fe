-- What is printed for an input: the sheet of the table that its line spells, or the line of a refusal.
use Rattle.std.specs.Prelude.{ℕ, ◌-◌, max, cond, ◌&&◌, List, map, length, take, Some, None, Ok, Err, Option, Result, ◌==◌, bit_xor, nat_lt, slice_index}
use Rattle.cube.specs.declared.cube.Cube.{Cube}
use Rattle.expansion.specs.Tables.{inputs_of}
use Rattle.expansion.specs.Answers.{expansion_of}
use Rattle.expansion.specs.declared.refusal.ExpandRefusal.{ExpandRefusal}
use Rattle.sheet.specs.Text.{sheet_text}
use Rattle.sheet.specs.Writing.{sheet_refusal}
use Rattle.sheet.specs.Refusing.{printed_by}
use Rattle.expander.specs.Refusals.{number}
use Rattle.expander.specs.declared.refusal.PrintRefusal.{PrintRefusal}
use Rattle.expander.specs.declared.refusal.PrintRefusal.TheVariants.{Table, Sheet}

-- the input without the line feed that may end it
abbrev pub line_of : List ℕ → List ℕ
line_of input =
    cond (nat_lt 0 (length input) && slice_index input (length input - 1) == 10) (take (length input - 1) input) input

-- the byte that a character spells: 0 and 1 as themselves, and any other character as a byte that is neither
abbrev pub byte_of : ℕ → ℕ
byte_of char = bit_xor char 48

abbrev pub table_of : List ℕ → List ℕ
table_of line = map byte_of line

-- the inputs of the sheet; a table of one byte has none, and is printed with one
abbrev pub inputs_among : Option ℕ → ℕ
inputs_among None = 1
inputs_among (Some k) = max k 1

abbrev pub sheet_inputs : List ℕ → ℕ
sheet_inputs line = inputs_among (inputs_of (length line))

-- the text of a sheet, or why the memory m does not get it
abbrev pub sheet_or : List ℕ → ℕ → List Cube → Result (List ℕ) PrintRefusal
sheet_or m i ps = elim (sheet_refusal m i 1 ps) [ None ↦ Ok (sheet_text i 1 ps) | Some why ↦ Err (Sheet why) ]

abbrev pub sheet_from : List ℕ → ℕ → Result (List Cube) ExpandRefusal → Result (List ℕ) PrintRefusal
sheet_from m i (Ok ps) = sheet_or m i ps
sheet_from m i (Err why) = Err (Table why)

-- the sheet of a line: its table expanded for output 0 into a list of 960 places
abbrev pub sheet_of : List ℕ → List ℕ → Result (List ℕ) PrintRefusal
sheet_of m line = sheet_from m (sheet_inputs line) (expansion_of (table_of line) 0 960)

-- the bytes that are printed
abbrev pub printed : List ℕ → List ℕ → List ℕ
printed m input = printed_by number (sheet_of m (line_of input))
