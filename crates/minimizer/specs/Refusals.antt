-- The numbers of the refusals.
use Rattle.std.specs.Prelude.{ℕ}
use Rattle.sheet.specs.Writing.{number}
use Rattle.minimizer.specs.declared.refusal.LoadRefusal.{LoadRefusal}
use Rattle.minimizer.specs.declared.refusal.LoadRefusal.TheVariants.{Unread, NoPlace}
use Rattle.minimizer.specs.declared.refusal.MinimizeRefusal.{MinimizeRefusal}
use Rattle.minimizer.specs.declared.refusal.MinimizeRefusal.TheVariants.{Load, NoWork}
use Rattle.minimizer.specs.declared.refusal.PrintRefusal.{PrintRefusal}
use Rattle.minimizer.specs.declared.refusal.PrintRefusal.TheVariants.{Minimize, Write}

abbrev pub load_number : LoadRefusal → ℕ
load_number Unread = 26
load_number NoPlace = 1

abbrev pub minimize_number : MinimizeRefusal → ℕ
minimize_number (Load why) = load_number why
minimize_number NoWork = 6

abbrev pub print_number : PrintRefusal → ℕ
print_number (Minimize why) = minimize_number why
print_number (Write why) = number why
