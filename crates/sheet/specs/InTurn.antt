-- A sheet that is written call by call: the heading, a row for each product in turn, and the end, on one memory.
use Rattle.std.specs.Prelude.{◌≡◌, ℕ, List, [], ◌∷◌, Ok}
use Rattle.cube.specs.declared.cube.Cube.{Cube}
use Rattle.sheet.specs.declared.state.Headed.{Headed}
use Rattle.sheet.specs.declared.state.Closed.{Closed}
use Rattle.sheet.specs.Writing.{blank, heading_answer, heading_memory, row_answer, row_memory, end_answer, end_memory}

-- the row of each product is accepted, which leads from the sheet s and the memory m to the sheet t and the memory n
abbrev pub Rows : Headed → List ℕ → List Cube → Headed → List ℕ → Type 0
Rows s m [] t n = (s ≡ t) × (m ≡ n)
Rows s m (c ∷ cs) t n = (u : Headed) × (row_answer s m c ≡ Ok u) × Rows u (row_memory s m c) cs t n

-- every call is accepted, which leads from the memory m to the memory n, with a text of len bytes
pub record WrittenInTurn (m : List ℕ) (i o r : ℕ) (cs : List Cube) (n : List ℕ) (len : ℕ) : Type 0 where
  pub first : Headed
  pub last : Headed
  pub closed : Closed
  pub rowed : List ℕ
  pub heading : heading_answer blank m i o r ≡ Ok first
  pub rows : Rows first (heading_memory m i o r) cs last rowed
  pub ending : end_answer last rowed ≡ Ok closed
  pub memory : n ≡ end_memory last rowed
  pub length : len ≡ closed.len
