use Rattle.std.proofs.Common.{◌≡◌}
use Rattle.expander.proofs.SpellLaws.{spelled}
use Rattle.expander.proofs.line.spell.Given as goal

abbrev pub invariant-loop-i : goal.invariant-loop-i
invariant-loop-i l = l.table ≡ spelled l.line l.initial.table l.i
