-- The numbers of the refusals of an expansion.
use Rattle.std.specs.Prelude.{ℕ}
use Rattle.expansion.specs.declared.refusal.ExpandRefusal.{ExpandRefusal}
use Rattle.expansion.specs.declared.refusal.ExpandRefusal.TheVariants.{Length, Byte, Output, Room}

abbrev pub number : ExpandRefusal → ℕ
number Length = 13
number Byte = 14
number Output = 15
number Room = 16
