-- The turns of a history, one request after the other.
use Rattle.std.proofs.Common.{◌≡◌, ℕ, ◌+◌, ◌<◌, ◌≤◌, List, [], ◌∷◌, ◌++◌, map, length, get_or, take, drop, set, sym, refl, ap, ◌∙◌, subst, ap₂, arith, length-set, take-append-drop}
use Rattle.std.proofs.lemmas.List.{take_more, take_more_set, take_all, map_push, drop-set-lt}
use Rattle.std.specs.List.{between, AllByRecursion}
use Rattle.esop.specs.Kind.{Meaning, Laws}
use Rattle.esop.specs.Criterion.{Test, Strict}
use Rattle.esop.specs.History as history
use Rattle.esop.specs.History.{Held, Turn, turn_of, memory, opened, served, turns, left, admitted, linked, ran_by}
use Rattle.esop.proofs.History.{histories_keep}
use Rattle.cover.specs.Holding.{held_of}
use Rattle.cover.specs.Calls.{Replied}
use Rattle.cover.specs.Serving.{asked, said, call_asked, call_said, turns_of, end_of, Serves, Untouched}
use Rattle.cover.specs.declared.memory.Cover.{Cover}
use Rattle.cover.specs.declared.serve.Request.{Request}
use Rattle.cover.specs.declared.serve.Request.TheVariants.{Enter, EnterAll, Link, Run}
use Rattle.cover.specs.declared.serve.Answer.{Answer}
use Rattle.cover.proofs.Attempting.{count_of}

all_last : {X : Type 0} (Q : X → Type 0) (xs : List X) (x : X) → AllByRecursion Q (xs ++ x ∷ []) → AllByRecursion Q xs × Q x
all_last Q [] x h = (tt, h.0)
all_last Q (y ∷ xs) x h = let r = all_last Q xs x h.1 in ((h.0, r.0), r.1)

-- one more answer: no group was tried for those before it, nor for it
pub untouched_more : (ys : List Answer) (i : ℕ) (a : Answer) → i < length ys → AllByRecursion Untouched (take (i + 1) (set ys i a)) → AllByRecursion Untouched (take i ys) × Untouched a
untouched_more ys i a l u = all_last Untouched (take i ys) a (subst (AllByRecursion Untouched) (take_more_set ys i a l) u)

module _ {P Y : Type 0} (m : Meaning P) (keeps : Y → Test) where
  -- each request is served by its call
  module _ {N : ℕ} (list : List P) (h : Held P) (work : ℕ) (r : Request P Y) (a : history.Answer) (d : Cover P N) where
    abbrev Obeyed : Request P Y → Type 0
    Obeyed q = Replied (served m keeps h (asked list work q)) a d

    pub by_enter : (p : P) → r ≡ Enter p → Replied (admitted m h (p ∷ [])) a d → Replied (served m keeps h (asked list work r)) a d
    unfolding served
    by_enter p e x = subst Obeyed (sym e) x

    pub by_enter_all : (from to : ℕ) → r ≡ EnterAll from to → Replied (admitted m h (between from to list)) a d → Replied (served m keeps h (asked list work r)) a d
    unfolding served
    by_enter_all from to e x = subst Obeyed (sym e) x

    pub by_link : (y : Y) (p q o : ℕ) → r ≡ Link y p q o → Replied (linked m (keeps y) h p q o work) a d → Replied (served m keeps h (asked list work r)) a d
    unfolding served
    by_link y p q o e x = subst Obeyed (sym e) x

    pub by_run : (y : Y) (budget : ℕ) → r ≡ Run y budget → Replied (ran_by m (keeps y) h budget work) a d → Replied (served m keeps h (asked list work r)) a d
    unfolding served
    by_run y budget e x = subst Obeyed (sym e) x

  turns_push : (h : Held P) (rs : List (history.Request P Y)) (r : history.Request P Y) → turns m keeps h (rs ++ r ∷ []) ≡ turns m keeps h rs ++ turn_of m keeps (left h (turns m keeps h rs)) r ∷ []
  unfolding turns
  turns_push h [] r = refl
  turns_push h (q ∷ rs) r = ap (λ ts. turn_of m keeps h q ∷ ts) (turns_push (served m keeps h q).held rs r)

  left_push : (h : Held P) (ts : List (Turn P Y)) (t : Turn P Y) → left h (ts ++ t ∷ []) ≡ t.after
  left_push h [] t = refl
  left_push h (u ∷ ts) t = left_push u.after ts t

  no_turns : (h : Held P) → turns m keeps h [] ≡ []
  unfolding turns
  no_turns h = refl

  module _ {N : ℕ} (places list : List P) (requests : List (Request P Y)) (work : ℕ) (answers : List Answer) where
    -- i requests are answered, which left the cover c
    pub record Turned (c : Cover P N) (now-answers : List Answer) (i : ℕ) : Type 0 where
      pub within : i ≤ length requests
      pub long : length now-answers ≡ length answers
      pub held : held_of c ≡ end_of m keeps places list work (take i requests)
      pub answered : map said (take i now-answers) ≡ map (λ t. t.answer) (turns_of m keeps places list work (take i requests))
      pub calls : map call_said (take i now-answers) ≡ map call_asked (take i requests)
      pub others : drop (length requests) now-answers ≡ drop (length requests) answers

    pub turned_start : (c : Cover P N) → c.count ≡ 0 → c.places.now ≡ places → Turned c answers 0
    turned_start c none all =
        record {
          within = omega arith;
          long = refl;
          held = ap₂ (λ n xs. record { used = take n xs; free = drop n xs }) none all ∙ sym (ap (left (opened places)) (no_turns (opened places)));
          answered = sym (ap (map (λ t. t.answer)) (no_turns (opened places)));
          calls = refl;
          others = refl;
        }

    -- one more request is answered
    pub turned_more : (c d : Cover P N) (ys : List Answer) (i : ℕ) (r : Request P Y) (a : Answer) (w : ℕ) → Turned c ys i → length requests ≤ length answers → i < length requests → r ≡ get_or requests i r → w ≡ work → Replied (served m keeps (held_of c) (asked list w r)) (said a) d → call_said a ≡ call_asked r → Turned d (set ys i a) (i + 1)
    turned_more c d ys i r a w t room l read same reply call =
        let done = turns_of m keeps places list work (take i requests) in
        let asked_more : map (asked list work) (take (i + 1) requests) ≡ map (asked list work) (take i requests) ++ asked list work r ∷ [] =
        ap (map (asked list work)) (take_more requests i r l ∙ ap (λ x. take i requests ++ x ∷ []) (sym read)) ∙ map_push (asked list work) (take i requests) r
        in
        let more : turns_of m keeps places list work (take (i + 1) requests) ≡ done ++ turn_of m keeps (left (opened places) done) (asked list work r) ∷ [] =
        ap (turns m keeps (opened places)) asked_more ∙ turns_push (opened places) (map (asked list work) (take i requests)) (asked list work r)
        in
        let at : served m keeps (held_of c) (asked list w r) ≡ served m keeps (left (opened places) done) (asked list work r) = ap₂ (λ h n. served m keeps h (asked list n r)) t.held same in
        record {
          within = omega arith;
          long = length-set ys i a ∙ t.long;
          held = reply.held ∙ ap (λ z. z.held) at ∙ sym (ap (left (opened places)) more ∙ left_push (opened places) done (turn_of m keeps (left (opened places) done) (asked list work r)));
          answered = ap (map said) (take_more_set ys i a (omega (arith, t.long)))
              ∙ map_push said (take i ys) a
              ∙ ap₂ (λ zs z. zs ++ z ∷ []) t.answered (reply.answer ∙ ap (λ z. z.answer) at)
              ∙ sym (ap (map (λ x. x.answer)) more ∙ map_push (λ x. x.answer) done (turn_of m keeps (left (opened places) done) (asked list work r)));
          calls = ap (map call_said) (take_more_set ys i a (omega (arith, t.long)))
              ∙ map_push call_said (take i ys) a
              ∙ ap₂ (λ zs z. zs ++ z ∷ []) t.calls call
              ∙ sym (ap (map call_asked) (take_more requests i r l ∙ ap (λ x. take i requests ++ x ∷ []) (sym read)) ∙ map_push call_asked (take i requests) r);
          others = drop-set-lt (length requests) ys i a l ∙ t.others;
        }

    all_served : Laws m → ((y : Y) → Strict (keeps y)) → (c : Cover P N) (ys : List Answer) (i : ℕ) → Turned c ys i → length requests ≤ i → (after : List P) → after ≡ c.places.now → Serves m keeps places list requests work answers c.count after ys
    all_served laws strict c ys i t l after is =
        let end : i ≡ length requests = omega (arith, t.within) in
        let all : take i requests ≡ requests = take_all i requests l in
        let held = t.held ∙ ap (λ rs. end_of m keeps places list work rs) all in
        record {
          answered = ap (λ n. map said (take n ys)) (sym end) ∙ t.answered ∙ ap (λ rs. map (λ x. x.answer) (turns_of m keeps places list work rs)) all;
          calls = ap (λ n. map call_said (take n ys)) (sym end) ∙ t.calls ∙ ap (map call_asked) all;
          others = t.others;
          count = count_of c (end_of m keeps places list work requests).used (ap (λ h. h.used) held);
          held = is ∙ sym (take-append-drop c.count c.places.now) ∙ ap memory held;
          kept = histories_keep m laws keeps strict places (map (asked list work) requests);
        }

    -- all are answered
    pub turned_all : Laws m → ((y : Y) → Strict (keeps y)) → (c : Cover P N) (ys : List Answer) (i : ℕ) → Turned c ys i → length requests ≤ i → (before after : List P) → places ≡ before → after ≡ c.places.now → Serves m keeps before list requests work answers c.count after ys
    turned_all laws strict c ys i t l before after from is =
        subst (λ xs. Serves m keeps xs list requests work answers c.count after ys) from (all_served laws strict c ys i t l after is)
