use Rattle.cover.proofs.run.Cover+P+MOST.exhaust.Goals as goal

pub loop-end-preserved : goal.loop-end-preserved
loop-end-preserved g c = c.in_default.ensures.0 _ _ _ c.loop-end.invariant
