use Rattle.sheet.specs.Pens.{WroteChars}
use Rattle.sheet.proofs.pen.Pen.chars.Given as goal

abbrev pub invariant-loop-j : goal.invariant-loop-j
invariant-loop-j g l = WroteChars (λ j r. goal.F-post g l.char_at j r) l.initial.self l.j l.self
