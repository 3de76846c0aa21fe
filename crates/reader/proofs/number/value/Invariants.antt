use Rattle.std.proofs.Common.{◌≡◌, ◌≤◌, drop}
use Rattle.reader.specs.Numbers.{value_from}
use Rattle.reader.proofs.number.value.Given as goal

abbrev pub invariant-loop-b : goal.invariant-loop-b
invariant-loop-b l = (l.n ≤ 4294967295) × (value_from l.n (drop l.b-index l.digits) ≡ value_from 0 l.digits)
