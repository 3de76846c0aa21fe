-- What the calls owe that try one group.
use Rattle.std.specs.Prelude.{◌≡◌, ℕ, Bool, true, false, cond, List, Some, Ok, Err, Result}
use Rattle.std.specs.List.{slice_get}
use Rattle.esop.specs.Kind.{Meaning}
use Rattle.esop.specs.Criterion.{Test}
use Rattle.esop.specs.Linking.{Group, IsGroup, result, says}
use Rattle.esop.specs.History.{Answer, counted, refused, Held, Reply, accept, refuse, replaced, linked}
use Rattle.cover.specs.Holding.{used, held_of, IsEnough}
use Rattle.cover.specs.declared.memory.Cover.{Cover}
use Rattle.cover.specs.declared.trial.Group.{Group as Grouped}
use Rattle.cover.specs.declared.link.LinkRefusal.{LinkRefusal}
use Rattle.cover.specs.declared.link.LinkRefusal.TheVariants.{NotOrdered, NotInUse, NoGroup, NoOrder, NoWork, NotKept}

-- the number of the question that was answered with no
abbrev pub link_number : LinkRefusal → ℕ
link_number NotOrdered = 2
link_number NotInUse = 3
link_number NoGroup = 4
link_number NoOrder = 5
link_number NoWork = 6
link_number NotKept = 7

abbrev pub link_answer : Result ℕ LinkRefusal → Answer
link_answer (Ok n) = counted n
link_answer (Err e) = refused (link_number e)

-- the group was not tried
abbrev pub untried : Result ℕ LinkRefusal → Bool
untried (Ok n) = false
untried (Err NotOrdered) = true
untried (Err NotInUse) = true
untried (Err NoGroup) = true
untried (Err NoOrder) = true
untried (Err NoWork) = true
untried (Err NotKept) = false

abbrev pub group_of : {P : Type 0} → Grouped P → Group P
group_of g = record { first = g.first; second = g.second; a = g.a; b = g.b; number = g.number }

-- the group has the places p and q, the products of the cover there, and the order number o
pub record Reads {P : Type 0} (c : List P) (p q o : ℕ) (g : Group P) : Type 0 where
  pub first : g.first ≡ p
  pub second : g.second ≡ q
  pub number : g.number ≡ o
  pub at_first : slice_get c g.first ≡ Some g.a
  pub at_second : slice_get c g.second ≡ Some g.b

-- Question 7: does the criterion say yes?
abbrev pub decided : {P : Type 0} → Meaning P → Test → Held P → Group P → Reply P
decided m test h g = cond (says m test h.used g) (accept (replaced h (result m h.used g))) (refuse 7 h)

-- Questions 2 to 6 were answered: by a refusal, or by the group, for which question 7 is left. Whatever the criterion is.
abbrev pub Questioned : {P : Type 0} {N : ℕ} → Meaning P → Cover P N → ℕ → ℕ → ℕ → ℕ → Result (Grouped P) LinkRefusal → Type 0
Questioned m c work p q o (Ok g) =
    IsGroup m (used c) (group_of g) × IsEnough c work × ((test : Test) → linked m test (held_of c) p q o work ≡ decided m test (held_of c) (group_of g))
Questioned m c work p q o (Err e) = (untried (Err e) ≡ true) × ((test : Test) → linked m test (held_of c) p q o work ≡ refuse (link_number e) (held_of c))
