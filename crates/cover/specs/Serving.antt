-- What is owed for a list of requests.
use Rattle.std.specs.Prelude.{◌≡◌, ℕ, true, List, map, length, take, drop}
use Rattle.std.specs.List.{between}
use Rattle.esop.specs.Kind.{Meaning}
use Rattle.esop.specs.Criterion.{Test}
use Rattle.esop.specs.History as history
use Rattle.esop.specs.History.{Turn, Held, memory, opened, turns, left, Kept}
use Rattle.cover.specs.Calls.{entry_answer}
use Rattle.cover.specs.Trying.{link_answer, untried}
use Rattle.cover.specs.Recording.{run_answer, idle}
use Rattle.cover.specs.declared.serve.Request.{Request}
use Rattle.cover.specs.declared.serve.Request.TheVariants.{Enter, EnterAll, Link, Run}
use Rattle.cover.specs.declared.serve.Answer.{Answer}
use Rattle.cover.specs.declared.serve.Answer.TheVariants.{Entered, Linked, Ran}

-- a request, with the list that its list entries take their products from, and the number of places of the work memory
abbrev pub asked : {P Y : Type 0} → List P → ℕ → Request P Y → history.Request P Y
asked list work (Enter p) = history.enter p
asked list work (EnterAll from to) = history.enter_list (between from to list)
asked list work (Link y p q o) = history.link_by y p q o work
asked list work (Run y budget) = history.run_by y budget work

abbrev pub said : Answer → history.Answer
said (Entered r) = entry_answer r
said (Linked r) = link_answer r
said (Ran r) = run_answer r

-- the call that a request asks for, and the call that gave an answer
pub data Call : Type 0 where
  entry linking running : Call

abbrev pub call_asked : {P Y : Type 0} → Request P Y → Call
call_asked (Enter p) = entry
call_asked (EnterAll from to) = entry
call_asked (Link y p q o) = linking
call_asked (Run y budget) = running

abbrev pub call_said : Answer → Call
call_said (Entered r) = entry
call_said (Linked r) = linking
call_said (Ran r) = running

-- no group was tried for the request, so that the work memory is as it was
abbrev pub Untouched : Answer → Type 0
Untouched (Entered r) = Unit {0}
Untouched (Linked r) = untried r ≡ true
Untouched (Ran r) = idle r

-- the turns that the requests make on a cover opened on the places
abbrev pub turns_of : {P Y : Type 0} → Meaning P → (Y → Test) → List P → List P → ℕ → List (Request P Y) → List (Turn P Y)
turns_of m keeps places list work requests = turns m keeps (opened places) (map (asked list work) requests)

-- what is held after them
abbrev pub end_of : {P Y : Type 0} → Meaning P → (Y → Test) → List P → List P → ℕ → List (Request P Y) → Held P
end_of m keeps places list work requests = left (opened places) (turns_of m keeps places list work requests)

-- The requests were answered on a cover opened on the places, which has n products in the end.
pub record Serves {P Y : Type 0} (m : Meaning P) (keeps : Y → Test) (places list : List P) (requests : List (Request P Y)) (work : ℕ) (answers : List Answer) (n : ℕ) (places-after : List P) (answers-after : List Answer) : Type 0 where
  -- the answers are those of the turns
  pub answered : map said (take (length requests) answers-after) ≡ map (λ t. t.answer) (turns_of m keeps places list work requests)
  -- each is of the call that was asked for
  pub calls : map call_said (take (length requests) answers-after) ≡ map call_asked requests
  -- and the places for answers that are left over are as they were
  pub others : drop (length requests) answers-after ≡ drop (length requests) answers
  pub count : n ≡ length (end_of m keeps places list work requests).used
  pub held : places-after ≡ memory (end_of m keeps places list work requests)
  -- the promise of every history
  pub kept : Kept m keeps (turns_of m keeps places list work requests)
