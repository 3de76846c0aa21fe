-- What the calls on a cover owe.
use Rattle.std.specs.Prelude.{◌≡◌, ℕ, List, Ok, Err, Result, OnErr}
use Rattle.esop.specs.Kind.{Meaning}
use Rattle.esop.specs.Entering.{entered_all, spared_all}
use Rattle.esop.specs.History.{Answer, counted, refused, Reply}
use Rattle.cover.specs.Holding.{used, free, held_of, SameLoan}
use Rattle.cover.specs.declared.memory.Cover.{Cover}
use Rattle.cover.specs.declared.entry.EnterRefusal.{EnterRefusal}
use Rattle.cover.specs.declared.entry.EnterRefusal.TheVariants.{NoPlace}

-- the number of the question that was answered with no
abbrev pub entry_number : EnterRefusal → ℕ
entry_number NoPlace = 1

abbrev pub entry_answer : Result ℕ EnterRefusal → Answer
entry_answer (Ok n) = counted n
entry_answer (Err e) = refused (entry_number e)

-- entering the products ps in turn turned the cover c into d
pub record Entries {P : Type 0} {N : ℕ} (m : Meaning P) (ps : List P) (c d : Cover P N) : Type 0 where
  pub list : used d ≡ entered_all m ps (used c)
  pub rest : free d ≡ spared_all m ps (used c) (free c)
  pub loan : SameLoan c d

-- a call gave the reply: it answered a, and left the cover d
pub record Replied {P : Type 0} {N : ℕ} (reply : Reply P) (a : Answer) (d : Cover P N) : Type 0 where
  pub answer : a ≡ reply.answer
  pub held : held_of d ≡ reply.held

-- A call that met the cover c gave the reply: it answered a, and left the cover d. Where its result r is a refusal, nothing has changed.
pub record Called {P T E : Type 0} {N : ℕ} (owed : Reply P) (a : Answer) (r : Result T E) (c d : Cover P N) : Type 0 where
  pub reply : Replied owed a d
  pub same : OnErr r (d ≡ c)
  pub loan : SameLoan c d
