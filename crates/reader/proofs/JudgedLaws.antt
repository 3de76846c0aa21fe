-- One line more of what a text comes to.
-- Assumes nothing.
use Rattle.std.proofs.Common.{◌≡◌, ℕ, ◌+◌, List, [], ◌∷◌, length, Some, None, Ok, Err, Option, Result, sym, ap, ◌∙◌, subst, ap₂, arith}
use Rattle.cube.specs.declared.cube.Cube.{Cube}
use Rattle.reader.specs.declared.state.ReadRefusal.{ReadRefusal}
use Rattle.reader.specs.declared.state.ReadRefusal.TheVariants.{Unended}
use Rattle.reader.specs.declared.state.State.{State}
use Rattle.reader.specs.declared.state.State.TheVariants as state
use Rattle.reader.specs.declared.turn.Reader.{Reader}
use Rattle.reader.specs.declared.turn.Turn.{Turn}
use Rattle.reader.specs.declared.turn.Turn.TheVariants as turn
use Rattle.reader.specs.Lines.{Piece, ended, broken, pieces, Shown, class_of}
use Rattle.reader.specs.Reading.{Step, step, at_end, refused, added, then, judged}
use Rattle.reader.specs.Turns.{Follows, Kept, pieces_left, judged_at, Onward, Turned, finished}

pub judged_done : (k : ℕ) (s : State) (n : ℕ) (ps : List Piece) → ps ≡ [] → judged k s n ps ≡ at_end s n
unfolding judged
judged_done k s n ps e = ap (judged k s n) e

pub judged_broken : (k : ℕ) (s : State) (n : ℕ) (ps : List Piece) (l : List ℕ) → ps ≡ broken l ∷ [] → judged k s n ps ≡ Err (refused Unended n)
unfolding judged
judged_broken k s n ps l e = ap (judged k s n) e

pub judged_ended : (k : ℕ) (s : State) (n : ℕ) (ps qs : List Piece) (l : List ℕ) (x : Step) → ps ≡ ended l ∷ qs → step k s (class_of l) ≡ x
    → judged k s n ps ≡ then x n (λ t. judged k t (n + 1) qs)
unfolding judged
judged_ended k s n ps qs l x e f = ap (judged k s n) e ∙ ap (λ y. then y n (λ t. judged k t (n + 1) qs)) f

pub follows_ok : (t : State) (c : Option Cube) (x : Step) → Follows t (Ok c) x → x ≡ Ok (t, c)
follows_ok t c (Ok u) h = λ i. Ok (sym h.0 i, sym h.1 i)
follows_ok t c (Err e) h = absurd h

pub follows_err : (t : State) (e : ReadRefusal) (x : Step) → Follows t (Err e) x → x ≡ Err e
follows_err t e (Ok u) h = absurd h
follows_err t e (Err f) h = ap Err (sym h)

-- the turn of a line that may add a product
abbrev taken_as : Option Cube → Turn
taken_as None = turn.Passed
taken_as (Some c) = turn.Product c

-- the turn where no line is left
pub turned_done : (r s : Reader) (a : Result Turn ReadRefusal) → pieces_left r ≡ [] → Kept r s → a ≡ finished s.state → Turned r s a
turned_done r s a e kept is = subst (Turned r s) (sym is) (by s.state (λ n. judged_done _ _ n _ e ∙ ap (λ t. at_end t n) (sym kept.1)))
  where
    by : (t : State) → ((n : ℕ) → judged_at r n ≡ at_end t n) → Turned r s (finished t)
    by state.Inputs h = h
    by (state.Outputs i) h = h
    by (state.Type i o) h = h
    by (state.Count i o) h = h
    by (state.Rows h left) f = f
    by (state.Ended h) f = f

pub turned_broken : (r s : Reader) (l : List ℕ) (e : ReadRefusal) (a : Result Turn ReadRefusal) → pieces_left r ≡ broken l ∷ [] → e ≡ Unended → a ≡ Err e → Turned r s a
turned_broken r s l e a is why answer = subst (Turned r s) (sym (answer ∙ ap Err why)) (λ n. judged_broken _ _ n _ l is)

-- a line that is right, and one that is not, from the reader r to s past it and to t after its step
module _ (r s t : Reader) (l : Shown) where
  abbrev Handed : Type 0
  Handed = (u : List ℕ) × (pieces_left r ≡ ended u ∷ pieces_left s) × (l ≡ class_of u)

  line_judged : (n : ℕ) (x : Step) → Handed → Kept r s → step s.places s.state l ≡ x → judged_at r n ≡ then x n (λ u. judged r.places u (n + 1) (pieces_left s))
  line_judged n x h kept e =
      judged_ended _ _ _ _ _ _ x h.1
      (ap (step r.places r.state) (sym h.2) ∙ ap₂ (λ k u. step k u l) (sym kept.0) (sym kept.1) ∙ e)

  pub turned_ok : (c d : Option Cube) → c ≡ d → Handed → Kept r s → Onward r s → Follows t.state (Ok c) (step s.places s.state l) → t.places ≡ s.places → t.rest.now ≡ s.rest.now
      → Turned r t (Ok (taken_as d))
  turned_ok c d is h kept onward follows places rest =
      let on = λ (n : ℕ). line_judged n _ h kept (follows_ok t.state c _ follows)
      ∙ ap (λ k. added c (judged k t.state (n + 1) (pieces_left s))) (sym (places ∙ kept.0))
      ∙ ap (λ u. added c (judged t.places t.state (n + 1) (pieces u))) (sym rest)
      in
      subst (λ a. Turned r t (Ok (taken_as a))) is (by c on (omega (arith, ap length rest)))
    where
      by : (d : Option Cube) → ((n : ℕ) → judged_at r n ≡ added d (judged_at t (n + 1))) → Onward r t → Turned r t (Ok (taken_as d))
      by None e o = (e, o)
      by (Some d) e o = (e, o)

  pub turned_err : (e : ReadRefusal) (a : Result Turn ReadRefusal) → Handed → Kept r s → Follows t.state (Err e) (step s.places s.state l) → a ≡ Err e → Turned r t a
  turned_err e a h kept follows is = subst (Turned r t) (sym is) (λ n. line_judged n _ h kept (follows_err t.state e _ follows))
