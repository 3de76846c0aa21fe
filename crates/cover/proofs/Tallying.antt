-- Records, trial by trial.
use Rattle.std.proofs.Common.{◌≡◌, ℕ, zero, suc, ◌+◌, ◌≤◌, Bool, true, false, eqb, List, [], ◌∷◌, refl, ap, arith}
use Rattle.esop.specs.Kind.{Meaning}
use Rattle.esop.specs.Entering.{bit}
use Rattle.esop.specs.Linking.{Group, span, result}
use Rattle.esop.specs.Running.{Rows, Trial, Outcome, after_trial, trial_rows, all_tried}
use Rattle.esop.specs.declared.ending.End.{End}
use Rattle.esop.specs.History.{Held, ran, replaced, after_run}
use Rattle.cover.specs.Recording.{noted, blank, Sensible}
use Rattle.cover.specs.Rounds.{plus, final}

abbrev rows : ℕ → ℕ → ℕ → ℕ → ℕ → ℕ → Rows
rows a b c d e f = record { two = record { tried = a; kept = b }; three = record { tried = c; kept = d }; four = record { tried = e; kept = f } }

same_rows : {a b c d e f a' b' c' d' e' f' : ℕ} → a ≡ a' → b ≡ b' → c ≡ c' → d ≡ d' → e ≡ e' → f ≡ f' → rows a b c d e f ≡ rows a' b' c' d' e' f'
same_rows p q r s t u = cc

plus_blank : (s : Rows) → plus s blank ≡ s
plus_blank s = same_rows (omega arith) (omega arith) (omega arith) (omega arith) (omega arith) (omega arith)

one : (k : ℕ) → 2 ≤ k → k ≤ 4 → bit (eqb k 2) + bit (eqb k 3) + bit (eqb k 4) ≡ 1
one zero l u = absurd (omega arith)
one (suc zero) l u = absurd (omega arith)
one (suc (suc zero)) l u = refl
one (suc (suc (suc zero))) l u = refl
one (suc (suc (suc (suc zero)))) l u = refl
one (suc (suc (suc (suc (suc k))))) l u = absurd (omega arith)

-- a group that is noted is one more that was tried
pub noted_tried : (k : ℕ) (b : Bool) (s : Rows) → 2 ≤ k → k ≤ 4 → all_tried (noted k b s) ≡ all_tried s + 1
noted_tried k b s l u = omega (arith, one k l u)

pub noted_sensible : (k : ℕ) (b : Bool) (s : Rows) → Sensible s → Sensible (noted k b s)
noted_sensible k true s h = record { two = omega (arith, h.two); three = omega (arith, h.three); four = omega (arith, h.four) }
noted_sensible k false s h = record { two = omega (arith, h.two); three = omega (arith, h.three); four = omega (arith, h.four) }

module _ {P : Type 0} (m : Meaning P) where
  -- the first trial of a list is noted
  rows_trial : (s : Rows) (g : Group P) (k : ℕ) (b : Bool) (ts : List (Trial P)) → k ≡ span m g → plus s (trial_rows m (record { group = g; kept = b } ∷ ts)) ≡ plus (noted k b s) (trial_rows m ts)
  rows_trial s g k true ts e =
      let two = ap (λ n. bit (eqb n 2)) e in
      let three = ap (λ n. bit (eqb n 3)) e in
      let four = ap (λ n. bit (eqb n 4)) e in
      same_rows (omega arith) (omega arith) (omega arith) (omega arith) (omega arith) (omega arith)
  rows_trial s g k false ts e =
      let two = ap (λ n. bit (eqb n 2)) e in
      let three = ap (λ n. bit (eqb n 3)) e in
      let four = ap (λ n. bit (eqb n 4)) e in
      same_rows (omega arith) (omega arith) (omega arith) (omega arith) (omega arith) (omega arith)

  -- one trial more, of a link that was kept
  pub final_kept : (h : Held P) (s : Rows) (g : Group P) (k : ℕ) (r : Outcome P) → k ≡ span m g → final m h s (after_trial g true r) ≡ final m (replaced h (result m h.used g)) (noted k true s) r
  final_kept h s g k r e =
      ap (λ t. record { answer = ran r.ending t; held = after_run m (replaced h (result m h.used g)) r }) (rows_trial s g k true r.trials e)

  -- and of one that was not
  pub final_not : (h : Held P) (s : Rows) (g : Group P) (k : ℕ) (r : Outcome P) → k ≡ span m g → final m h s (after_trial g false r) ≡ final m h (noted k false s) r
  final_not h s g k r e = ap (λ t. record { answer = ran r.ending t; held = after_run m h r }) (rows_trial s g k false r.trials e)

  -- nothing more is tried
  pub final_end : (h : Held P) (s : Rows) (e : End) → final m h s (record { cover = h.used; ending = e; trials = [] }) ≡ record { answer = ran e s; held = h }
  final_end h s e = ap (λ t. record { answer = ran e t; held = h }) (plus_blank s)
