use Rattle.std.proofs.Common.{refl, sym, ◌∙◌, arith}
use Rattle.std.proofs.lemmas.Bool.{eqb-false}
use Rattle.reader.proofs.LineLaws.{first_broken, next_ended}
use Rattle.reader.proofs.turn.Reader.next.Goals as goal

pub returns-in_default : goal.returns-in_default
returns-in_default c =
    let e = eqb-false _ _ (sym c.is_empty.ensures ∙ c.if-is_empty.false) in (first_broken _ (omega arith) c.in_default.ensures, refl, (refl, refl))

pub returns : goal.returns
returns c = let n = next_ended _ _ _ c.in-Some.ensures in ((_, n.0, c.classify.ensures), (refl, refl), n.1)
