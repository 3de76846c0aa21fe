-- What the program prints for a text: the printout of its shrunk sheet, or the line of a refusal.
use Rattle.std.specs.Prelude.{◌≡◌, ℕ, ◌%◌, ◌<◌, ◌≤◌, List, length, take, Some, None, Ok, Err, Result}
use Rattle.cube.specs.Positions.{cubes}
use Rattle.cube.specs.declared.cube.Cube.{Cube}
use Rattle.esop.specs.Entering.{covering, Apart}
use Rattle.reader.specs.Reading.{Sheet, heading_of, read}
use Rattle.reader.specs.declared.state.Refused.{Refused}
use Rattle.sheet.specs.Refusing.{refusal_text, printed_by}
use Rattle.sheet.specs.declared.summary.RunSummary.{RunSummary}
use Rattle.minimizer.specs.declared.refusal.MinimizeRefusal.{MinimizeRefusal}
use Rattle.minimizer.specs.declared.refusal.PrintRefusal.{PrintRefusal}
use Rattle.minimizer.specs.declared.refusal.PrintRefusal.TheVariants.{Minimize, Write}
use Rattle.minimizer.specs.Refusals.{print_number}
use Rattle.minimizer.specs.Minimizing.{shrinkable}
use Rattle.minimizer.specs.Printout.{printout_text, printout_refusal}
use Rattle.minimizer.specs.Shrinking.{shrunk, reduced_summary, refined_summary}

-- the first bytes of a memory, as a text that is read into a list of 960 places
abbrev pub reading : List ℕ → ℕ → Result Sheet Refused
reading m len = read 960 (take len m)

-- the printout of a sheet, under its own numbers of inputs and outputs
abbrev pub printout_of : Sheet → List ℕ
printout_of s =
    printout_text s.heading.inputs s.heading.outputs (reduced_summary s.products) (refined_summary s.products) (shrunk s.products)

-- a printout, or why the memory m does not get it
abbrev pub printout_or : List ℕ → ℕ → ℕ → RunSummary → RunSummary → List Cube → Result (List ℕ) PrintRefusal
printout_or m i o r s cs = elim (printout_refusal m i o r s cs) [ None ↦ Ok (printout_text i o r s cs) | Some why ↦ Err (Write why) ]

-- the same of a sheet that was shrunk, or why none was
abbrev pub printable : List ℕ → Result Sheet MinimizeRefusal → Result (List ℕ) PrintRefusal
printable m (Err why) = Err (Minimize why)
printable m (Ok s) =
    printout_or m s.heading.inputs s.heading.outputs (reduced_summary s.products) (refined_summary s.products) (shrunk s.products)

-- with 960 places for the cover, and 962 in the work memory
unfoldable pub printable_text : List ℕ → Result Sheet Refused → Result (List ℕ) PrintRefusal
printable_text m r = printable m (shrinkable 960 962 r)

-- the bytes that are printed for the first len bytes of the memory m
abbrev pub printed : List ℕ → ℕ → List ℕ
printed m len = printed_by print_number (printable_text m (reading m len))

-- What is promised of the bytes t that are printed for the sheet s: they are its printout, which the reader accepts, with the inputs and outputs of the sheet.
-- The products that it yields cover a point an odd number of times exactly when the rows of the sheet do; they are at distance two or more from each other,
-- and no more than the rows.
pub record Faithful (s : Sheet) (t : List ℕ) : Type 0 where
  pub is : t ≡ printout_of s
  pub accepted : read 960 t ≡ Ok (record { heading = heading_of s.heading.inputs s.heading.outputs (length (shrunk s.products)); products = shrunk s.products })
  pub parity : (x : ℕ) → covering cubes x (shrunk s.products) % 2 ≡ covering cubes x s.products % 2
  pub apart : Apart cubes (shrunk s.products)
  pub fewer : length (shrunk s.products) ≤ length s.products

-- What is promised of the bytes t that are printed for a text, in the memory m: a text that is not read is refused with 26. One that is read has a printout of
-- 64,000 bytes at most, which is printed where it fits the memory; where it does not, that is refused with 28.
pub record Prints (m : List ℕ) (s : Sheet) (t : List ℕ) : Type 0 where
  pub short : length (printout_of s) ≤ 64000
  pub fits : length (printout_of s) ≤ length m → Faithful s t
  pub full : length m < length (printout_of s) → t ≡ refusal_text 28

abbrev pub Promised : List ℕ → Result Sheet Refused → List ℕ → Type 0
Promised m (Err e) t = t ≡ refusal_text 26
Promised m (Ok s) t = Prints m s t
