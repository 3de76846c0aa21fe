-- The numbers of the refusals of a line: those of the expansion, and those of the sheet.
use Rattle.std.specs.Prelude.{ℕ}
use Rattle.expansion.specs.Refusals as expansion
use Rattle.sheet.specs.Writing as sheet
use Rattle.expander.specs.declared.refusal.PrintRefusal.{PrintRefusal}
use Rattle.expander.specs.declared.refusal.PrintRefusal.TheVariants.{Table, Sheet}

abbrev pub number : PrintRefusal → ℕ
number (Table why) = expansion.number why
number (Sheet why) = sheet.number why
