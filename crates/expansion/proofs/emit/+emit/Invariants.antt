use Rattle.expansion.proofs.emit.+emit.Given as goal

-- the number of inputs falls
abbrev pub decreases-emit : goal.decreases-emit
decreases-emit l = l.k
