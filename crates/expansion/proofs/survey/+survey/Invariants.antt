use Rattle.expansion.proofs.survey.+survey.Given as goal

-- the number of inputs falls
abbrev pub decreases-survey : goal.decreases-survey
decreases-survey l = l.k
