-- The sheet of a line whose table is refused.
-- Assumes nothing.
use Rattle.std.proofs.Common.{◌≡◌, ℕ, ◌<◌, List, length, Err, Result, sym, refl, ap, ◌∙◌, subst}
use Rattle.std.proofs.lemmas.List.{length-map}
use Rattle.cube.specs.declared.cube.Cube.{Cube}
use Rattle.expansion.specs.Tables.{inputs_of}
use Rattle.expansion.specs.Answers.{asked, expansion_of}
use Rattle.expansion.specs.declared.refusal.ExpandRefusal.{ExpandRefusal}
use Rattle.expansion.specs.declared.refusal.ExpandRefusal.TheVariants.{Length}
use Rattle.expansion.proofs.TableLaws.{inputs_past}
use Rattle.sheet.specs.Refusing.{Answered}
use Rattle.expander.specs.Printing.{table_of, sheet_inputs, sheet_from, sheet_of}
use Rattle.expander.specs.declared.refusal.PrintRefusal.TheVariants.{Table}

pub of_refusal : (x : Result (List Cube) ExpandRefusal) (j : ℕ) (m m' : List ℕ) (why : ExpandRefusal) → x ≡ Err why → m' ≡ m
    → Answered (sheet_from m j x) m (Err (Table why)) m'
of_refusal x j m m' why e f =
    subst (λ y. Answered (sheet_from m j y) m (Err (Table why)) m') (sym e) (record { answer = refl; memory = f; fits = tt })

-- a line longer than a table can be
pub too_long : (line m m' : List ℕ) → 1024 < length line → m' ≡ m → Answered (sheet_of m line) m (Err (Table Length)) m'
too_long line m m' h f =
    of_refusal (expansion_of (table_of line) 0 960) (sheet_inputs line) m m' Length
    (ap (λ o. asked o (table_of line) 0 960) (ap inputs_of (length-map line _) ∙ inputs_past (length line) h)) f
