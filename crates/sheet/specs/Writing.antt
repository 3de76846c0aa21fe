-- What each call on a sheet answers, and what it leaves in the memory.
use Rattle.std.specs.Prelude.{◌≡◌, ℕ, ◌+◌, ◌-◌, Bool, true, cond, ◌&&◌, List, [], ◌∷◌, length, Some, None, Ok, Err, Option, Result, nat_le, nat_lt}
use Rattle.std.proofs.Math.Seq.{paste}
use Rattle.cube.specs.declared.cube.Cube.{Cube}
use Rattle.sheet.specs.declared.state.Blank.{Blank}
use Rattle.sheet.specs.declared.state.Headed.{Headed}
use Rattle.sheet.specs.declared.state.Closed.{Closed}
use Rattle.sheet.specs.declared.state.WriteRefusal.{WriteRefusal}
use Rattle.sheet.specs.declared.state.WriteRefusal.TheVariants.{Range, Full, NoRowDue, OutOfHeading, RowsMissing}
use Rattle.sheet.specs.Text.{heading_text, row_text, end_text, sheet_text, keeps_to}

-- the numbers of the refusals
abbrev pub number : WriteRefusal → ℕ
number Range = 27
number Full = 28
number OutOfHeading = 29
number NoRowDue = 30
number RowsMissing = 31

-- all blank sheets are alike
abbrev pub blank : Blank
blank = record {}

-- the memory m with the text t from place p on
abbrev pub written : List ℕ → ℕ → List ℕ → List ℕ
written m p t = paste m p t (length t)

-- m' is m with the text t from place p on, and q is the place past it
pub record Put (m : List ℕ) (p : ℕ) (t : List ℕ) (m' : List ℕ) (q : ℕ) : Type 0 where
  pub memory : m' ≡ written m p t
  pub past : q ≡ p + length t

-- whether a text fits a memory from place p on
abbrev pub has_room : List ℕ → ℕ → List ℕ → Bool
has_room m p t = nat_le (p + length t) (length m)

-- a call that is refused hands its sheet back, and leaves the memory as it was
abbrev pub answered : {A B : Type 0} → Option WriteRefusal → A → B → Result A (B × WriteRefusal)
answered None a b = Ok a
answered (Some why) a b = Err (b, why)

abbrev pub memory_left : Option WriteRefusal → List ℕ → ℕ → List ℕ → List ℕ
memory_left None m p t = written m p t
memory_left (Some why) m p t = m

-- whether a heading may have i inputs, o outputs and n rows
abbrev pub in_range : ℕ → ℕ → ℕ → Bool
in_range i o n = nat_le 1 i && nat_le i 32 && nat_le 1 o && nat_le o 32 && nat_le n 960

abbrev pub heading_refusal : List ℕ → ℕ → ℕ → ℕ → Option WriteRefusal
heading_refusal m i o n = cond (in_range i o n) (cond (has_room m 0 (heading_text i o n)) None (Some Full)) (Some Range)

-- the sheet after its heading
abbrev pub begun : ℕ → ℕ → ℕ → Headed
begun i o n = record { heading = record { inputs = i; outputs = o; rows = n }; due = n; at = length (heading_text i o n) }

abbrev pub heading_answer : Blank → List ℕ → ℕ → ℕ → ℕ → Result Headed (Blank × WriteRefusal)
heading_answer b m i o n = answered (heading_refusal m i o n) (begun i o n) b

abbrev pub heading_memory : List ℕ → ℕ → ℕ → ℕ → List ℕ
heading_memory m i o n = memory_left (heading_refusal m i o n) m 0 (heading_text i o n)

-- the text of a product's row in a sheet
abbrev pub row_of : Headed → Cube → List ℕ
row_of s c = row_text s.heading.inputs s.heading.outputs c

abbrev pub row_refusal : Headed → List ℕ → Cube → Option WriteRefusal
row_refusal s m c =
    cond (nat_lt 0 s.due)
    (cond (keeps_to s.heading.inputs s.heading.outputs c) (cond (has_room m s.at (row_of s c)) None (Some Full)) (Some OutOfHeading))
    (Some NoRowDue)

-- the sheet after one row more
abbrev pub continued : Headed → Cube → Headed
continued s c = record { heading = s.heading; due = s.due - 1; at = s.at + length (row_of s c) }

abbrev pub row_answer : Headed → List ℕ → Cube → Result Headed (Headed × WriteRefusal)
row_answer s m c = answered (row_refusal s m c) (continued s c) s

abbrev pub row_memory : Headed → List ℕ → Cube → List ℕ
row_memory s m c = memory_left (row_refusal s m c) m s.at (row_of s c)

abbrev pub end_refusal : Headed → List ℕ → Option WriteRefusal
end_refusal s m = cond (nat_lt 0 s.due) (Some RowsMissing) (cond (has_room m s.at end_text) None (Some Full))

-- the sheet after its end
abbrev pub ended : Headed → Closed
ended s = record { len = s.at + length end_text }

abbrev pub end_answer : Headed → List ℕ → Result Closed (Headed × WriteRefusal)
end_answer s m = answered (end_refusal s m) (ended s) s

abbrev pub end_memory : Headed → List ℕ → List ℕ
end_memory s m = memory_left (end_refusal s m) m s.at end_text

-- whether every product of a list keeps to i inputs and o outputs
abbrev pub all_keep : ℕ → ℕ → List Cube → Bool
all_keep i o [] = true
all_keep i o (c ∷ cs) = keeps_to i o c && all_keep i o cs

abbrev pub sheet_refusal : List ℕ → ℕ → ℕ → List Cube → Option WriteRefusal
sheet_refusal m i o cs =
    cond (in_range i o (length cs))
    (cond (all_keep i o cs) (cond (has_room m 0 (sheet_text i o cs)) None (Some Full)) (Some OutOfHeading))
    (Some Range)

abbrev pub sheet_answer : List ℕ → ℕ → ℕ → List Cube → Result ℕ WriteRefusal
sheet_answer m i o cs =
    elim (sheet_refusal m i o cs) [ None ↦ Ok (length (sheet_text i o cs)) | Some why ↦ Err why ]

abbrev pub sheet_memory : List ℕ → ℕ → ℕ → List Cube → List ℕ
sheet_memory m i o cs = memory_left (sheet_refusal m i o cs) m 0 (sheet_text i o cs)
