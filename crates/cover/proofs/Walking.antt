-- The way of a run over the groups: what is left to try comes to the same end.
use Rattle.std.proofs.Common.{◌≡◌, ℕ, zero, suc, ◌+◌, ◌-◌, ◌<◌, ◌≤◌, Bool, true, false, cond, List, [], ◌∷◌, length, Some, None, get_or, sym, refl, ap, ◌∙◌, subst, ap₂, ⊎_elim, arith}
use Rattle.std.specs.List.{slice_get}
use Rattle.std.proofs.lemmas.Bool.{cond-true, cond-false}
use Rattle.esop.specs.Kind.{Meaning}
use Rattle.esop.specs.Criterion.{Test, Strict}
use Rattle.esop.specs.Entering.{total_weight}
use Rattle.esop.specs.Linking.{factorial, Group, span, result, says}
use Rattle.esop.specs.Running.{spans, Rows, after_trial, run_from, run, groups, all_tried}
use Rattle.esop.specs.declared.ending.End.{End}
use Rattle.esop.specs.declared.ending.End.TheVariants.{Spent, Finished}
use Rattle.esop.specs.Cursor.{rest}
use Rattle.esop.specs.History.{ran, replaced}
use Rattle.esop.proofs.Cursor.{rest_start, rest_end, rest_row, rest_apart, rest_over, rest_next}
use Rattle.esop.proofs.Groups.{spans_true}
use Rattle.esop.proofs.Linking.{nth_is}
use Rattle.cover.specs.Holding.{used, held_of, SameLoan}
use Rattle.cover.specs.Trying.{Reads}
use Rattle.cover.specs.Recording.{rows_of, noted}
use Rattle.cover.specs.Rounds.{final, Fit, Stopped}
use Rattle.cover.specs.declared.memory.Cover.{Cover}
use Rattle.cover.specs.declared.record.Record.{Record}
use Rattle.cover.proofs.Attempting.{count_is, count_of}
use Rattle.cover.proofs.Judging.{group_is, orders_at, orders_some}
use Rattle.cover.proofs.Settling.{SameLoan-trans}
use Rattle.cover.proofs.Shifting.{some_at}
use Rattle.cover.proofs.Tallying.{final_kept, final_not, final_end, noted_tried, noted_sensible}

module _ {P : Type 0} (m : Meaning P) (test : Test) where
  run_over : (n : ℕ) (c : List P) → run_from m test n c [] ≡ record { cover = c; ending = Finished; trials = [] }
  unfolding run_from
  run_over zero c = refl
  run_over (suc n) c = refl

  run_out : (c : List P) (g : Group P) (gs : List (Group P)) → run_from m test 0 c (g ∷ gs) ≡ record { cover = c; ending = Spent; trials = [] }
  unfolding run_from
  run_out c g gs = refl

  run_yes : (n : ℕ) (c : List P) (g : Group P) (gs : List (Group P)) → says m test c g ≡ true → run_from m test (suc n) c (g ∷ gs) ≡ after_trial g true (run_from m test n (result m c g) (groups m (result m c g)))
  unfolding run_from
  run_yes n c g gs e = cond-true _ _ _ e

  run_no : (n : ℕ) (c : List P) (g : Group P) (gs : List (Group P)) → says m test c g ≡ false → run_from m test (suc n) c (g ∷ gs) ≡ after_trial g false (run_from m test n c gs)
  unfolding run_from
  run_no n c g gs e = cond-false _ _ _ e

-- The round of the cover c, which began with a record and a work memory, has come to others, and goes on at the places p and q and the order
-- number o.
pub record Walk {P : Type 0} {N : ℕ} (m : Meaning P) (test : Test) (budget : ℕ) (c : Cover P N) (tally : Record) (work : List P) (tally' : Record) (work' : List P) (p q o : ℕ) : Type 0 where
  pub fit : Fit budget tally'
  pub more : all_tried (rows_of tally) ≤ all_tried (rows_of tally')
  -- where a trial was made, nothing is promised of the work memory
  pub unused : all_tried (rows_of tally') ≡ all_tried (rows_of tally) → work' ≡ work
  -- it comes to the reply of the run that goes on from the start of the round
  pub comes : final m (held_of c) (rows_of tally') (run_from m test (budget - all_tried (rows_of tally')) (used c) (rest m (used c) p q o)) ≡ final m (held_of c) (rows_of tally) (run m test (budget - all_tried (rows_of tally)) (used c))

-- a group that was read has, with another order number, the same places and products
pub reads_at : {P : Type 0} {N : ℕ} {c d : Cover P N} {p q o : ℕ} {g : Group P} → Reads (used d) p q o g → d ≡ c → (n : ℕ) → Reads (used c) p q n (record g { number = n })
reads_at {c = c} {d} {p} {q} {o} {g} r same n =
    record { first = r.first; second = r.second; number = refl; at_first = subst (λ x. slice_get (used x) g.first ≡ Some g.a) same r.at_first; at_second = subst (λ x. slice_get (used x) g.second ≡ Some g.b) same r.at_second }

-- a round begins with the first group
pub walk_start : {P : Type 0} {N : ℕ} (m : Meaning P) (test : Test) {budget : ℕ} (c : Cover P N) {tally : Record} (work : List P) → Fit budget tally → Walk m test budget c tally work tally work 0 1 0
walk_start m test {budget} c {tally} work fit =
    let s = rows_of tally in
    record {
      fit = fit;
      more = omega arith;
      unused = λ _. refl;
      comes = ap (λ gs. final m (held_of c) s (run_from m test (budget - all_tried s) (used c) gs)) (sym (rest_start m (used c)));
    }

module _ {P : Type 0} {N : ℕ} {m : Meaning P} {test : Test} {budget : ℕ} {c : Cover P N} {tally : Record} {work : List P} {tally' : Record} {work' : List P} {p q o : ℕ} (w : Walk m test budget c tally work tally' work' p q o) where
  abbrev s : Rows
  s = rows_of tally'

  -- the same groups are left at another place
  moved : (p' q' o' : ℕ) → rest m (used c) p q o ≡ rest m (used c) p' q' o' → Walk m test budget c tally work tally' work' p' q' o'
  moved p' q' o' e =
      record {
        fit = w.fit;
        more = w.more;
        unused = w.unused;
        comes = ap (λ gs. final m (held_of c) s (run_from m test (budget - all_tried s) (used c) gs)) (sym e) ∙ w.comes;
      }

  -- the run ends
  ends : (e : End) → record { answer = ran e s; held = held_of c } ≡ final m (held_of c) (rows_of tally) (run m test (budget - all_tried (rows_of tally)) (used c)) → (d : Cover P N) → d ≡ c → Stopped m test budget c tally work d tally' work' (Some e)
  ends e is d same =
      subst (λ x. Stopped m test budget c tally work x tally' work' (Some e)) (sym same)
      (λ reply start before go.
      record {
        replies = record { answer = ap (λ r. r.answer) (is ∙ go.is); held = ap (λ r. r.held) (is ∙ go.is) };
        unused = λ z. w.unused (omega (arith, w.more)) ∙ go.unused (omega (arith, w.more));
        loan = go.loan;
      })

  -- the first place has no second place left
  pub walk_row : p < c.count → c.count ≤ q → Walk m test budget c tally work tally' work' (p + 1) (p + 1 + 1) 0
  walk_row l u =
      let n = count_is c in
      let (a, read) = some_at (used c) p (omega arith) in
      moved (p + 1) (p + 1 + 1) 0 (rest_row m (used c) p a (omega arith) read q o (omega arith))

  -- no first place is left
  pub walk_done : c.count ≤ p → (d : Cover P N) → d ≡ c → Stopped m test budget c tally work d tally' work' (Some Finished)
  walk_done l =
      let e = rest_end m (used c) p q o (omega (arith, count_is c)) in
      ends Finished (sym (ap (λ gs. final m (held_of c) s (run_from m test (budget - all_tried s) (used c) gs)) e ∙ ap (final m (held_of c) s) (run_over m test (budget - all_tried s) (used c)) ∙ final_end m (held_of c) s Finished) ∙ w.comes)

  -- the group at those places
  module _ {g : Group P} (reads : Reads (used c) p q o g) where
    at_p : (p < length (used c)) × (g.a ≡ get_or (used c) p g.a)
    at_p = let r = nth_is (used c) g.first g.a reads.at_first in rw (← reads.first) (r.0, sym r.1)

    at_q : (q < length (used c)) × (g.b ≡ get_or (used c) q g.b)
    at_q = let r = nth_is (used c) g.second g.b reads.at_second in rw (← reads.second) (r.0, sym r.1)

    module _ (k r : ℕ) (is-k : k ≡ span m g) (is-r : r ≡ cond (spans k) (factorial k) 0) where
      -- the pair has no order left
      pub walk_pair : r ≤ o → Walk m test budget c tally work tally' work' p (q + 1) 0
      walk_pair h = moved p (q + 1) 0 (go (spans (span m g)) refl (is-r ∙ orders_at is-k))
        where
          go : (t : Bool) → spans (span m g) ≡ t → r ≡ cond t (factorial (span m g)) 0 → rest m (used c) p q o ≡ rest m (used c) p (q + 1) 0
          go true z i = rest_over m (used c) p g.a at_p.0 at_p.1 q g.b at_q.0 at_q.1 o (omega arith)
          go false z i = rest_apart m (used c) p g.a at_p.0 at_p.1 q g.b at_q.0 at_q.1 o z

      -- the pair has another order: the group is next
      module _ (left : o < r) where
        numbered : (spans (span m g) ≡ true) × (o < factorial (span m g))
        numbered = let e = orders_some (span m g) r (is-r ∙ orders_at is-k) (λ z. omega arith) in (e.0, omega (arith, e.1))

        walk_span : (2 ≤ k) × (k ≤ 4)
        walk_span = let h = spans_true (span m g) numbered.0 in (omega (arith, h.0), omega (arith, h.1))

        next : rest m (used c) p q o ≡ g ∷ rest m (used c) p q (o + 1)
        next =
            rest_next m (used c) p g.a at_p.0 at_p.1 q g.b at_q.0 at_q.1 o numbered.0 numbered.1
            ∙ ap (λ x. x ∷ rest m (used c) p q (o + 1)) (group_is (used c) p q o g reads)

        -- and the budget is spent
        pub walk_spent : budget ≤ all_tried s → (d : Cover P N) → d ≡ c → Stopped m test budget c tally work d tally' work' (Some Spent)
        walk_spent h =
            let none : budget - all_tried s ≡ 0 = omega arith in
            ends Spent
            (sym
            (ap₂ (λ n gs. final m (held_of c) s (run_from m test n (used c) gs)) none next
            ∙ ap (final m (held_of c) s) (run_out m test (used c) g (rest m (used c) p q (o + 1)))
            ∙ final_end m (held_of c) s Spent)
            ∙ w.comes)

        -- and it is tried
        module _ (some : all_tried s < budget) (b : Bool) (t : Record) (is-t : rows_of t ≡ noted k b s) where
          now_tried : all_tried (rows_of t) ≡ all_tried s + 1
          now_tried = ap all_tried is-t ∙ noted_tried k b s walk_span.0 walk_span.1

          now_fit : Fit budget t
          now_fit = record { within = omega (arith, now_tried); sensible = rw is-t (noted_sensible k b s w.fit.sensible) }

          left_is : budget - all_tried s ≡ suc (budget - all_tried (noted k b s))
          left_is = omega (arith, noted_tried k b s walk_span.0 walk_span.1)

          kept_goes : b ≡ true → Strict test → (d : Cover P N) (u : List P) → b ≡ says m test (used c) g → held_of d ≡ replaced (held_of c) (result m (used c) g) → SameLoan c d → Stopped m test budget c tally work d t u None
          kept_goes is-kept strict d u said held loan =
              let c' = result m (used c) g in
              let after : d.count ≡ length c' = count_of d c' (ap (λ h. h.used) held) in
              let lower : length c' ≤ length (used c) = ⊎_elim (λ h. omega arith) (λ h. omega (arith, h.0)) (strict (span m g) (length (used c)) (total_weight m (used c)) (length c') (total_weight m c') (sym said ∙ is-kept)) in
              let comes : final m (held_of d) (rows_of t) (run m test (budget - all_tried (rows_of t)) (used d)) ≡ final m (held_of c) s (run_from m test (budget - all_tried s) (used c) (rest m (used c) p q o)) =
              ap₂ (λ h v. final m h v (run m test (budget - all_tried v) h.used)) held (is-t ∙ ap (λ x. noted k x s) is-kept)
              ∙ sym (final_kept m (held_of c) s g k (run m test (budget - all_tried (noted k true s)) c') is-k)
              ∙ ap (final m (held_of c) s) (sym (run_yes m test (budget - all_tried (noted k true s)) (used c) g (rest m (used c) p q (o + 1)) (sym said ∙ is-kept)))
              ∙ sym (ap₂ (λ j gs. final m (held_of c) s (run_from m test j (used c) gs)) (left_is ∙ ap (λ x. suc (budget - all_tried (noted k x s))) is-kept) next)
              in (
                λ reply start before go.
                    record {
                      is = comes ∙ w.comes ∙ go.is;
                      fit = now_fit;
                      few = omega (arith, after, lower, count_is c, go.few);
                      unused = λ z. absurd (omega (arith, now_tried));
                      loan = SameLoan-trans go.loan loan;
                    },
                omega (arith, now_tried, w.more),
                now_fit.within,
              )

          -- its link is kept, which leaves the cover d
          pub walk_kept : b ≡ true → Strict test → (e d : Cover P N) (u : List P) → e ≡ c → b ≡ says m test (used e) g → held_of d ≡ replaced (held_of e) (result m (used e) g) → SameLoan e d → Stopped m test budget c tally work d t u None
          walk_kept is-kept strict e d u same =
              subst (λ x. b ≡ says m test (used x) g → held_of d ≡ replaced (held_of x) (result m (used x) g) → SameLoan x d → Stopped m test budget c tally work d t u None) (sym same) (kept_goes is-kept strict d u)

          -- it is not kept, and the cover is as it was
          pub walk_on : b ≡ false → (e : Cover P N) (u : List P) → e ≡ c → b ≡ says m test (used e) g → Walk m test budget c tally work t u p q (o + 1)
          walk_on is-left e u same was =
              let said = subst (λ x. b ≡ says m test (used x) g) same was in
              let n = budget - all_tried (noted k false s) in
              record {
                fit = now_fit;
                more = omega (arith, now_tried, w.more);
                unused = λ z. absurd (omega (arith, now_tried, w.more));
                comes = ap (λ v. final m (held_of c) v (run_from m test (budget - all_tried v) (used c) (rest m (used c) p q (o + 1)))) (is-t ∙ ap (λ x. noted k x s) is-left)
                    ∙ sym (final_not m (held_of c) s g k (run_from m test n (used c) (rest m (used c) p q (o + 1))) is-k)
                    ∙ ap (final m (held_of c) s) (sym (run_no m test n (used c) g (rest m (used c) p q (o + 1)) (sym said ∙ is-left)))
                    ∙ sym (ap₂ (λ j gs. final m (held_of c) s (run_from m test j (used c) gs)) (left_is ∙ ap (λ x. suc (budget - all_tried (noted k x s))) is-left) next)
                    ∙ w.comes;
              }
