use Rattle.std.proofs.Common.{◌≡◌, ◌-◌, ◌^◌, ◌<◌, length, drop, Some}
use Rattle.reader.specs.Rows.{forms_over}
use Rattle.reader.proofs.row.forms.Given as goal

abbrev pub invariant-loop-i : goal.invariant-loop-i
invariant-loop-i l =
    (l.zeros < 2 ^ (32 - l.i)) × (l.ones < 2 ^ (32 - l.i)) × (forms_over (2 ^ (32 - length l.part) - 1) (drop l.i l.part) ≡ Some (l.zeros, l.ones))
