-- What the call answers, from what shrinking answered.
-- Assumes nothing.
use Rattle.std.proofs.Common.{◌≡◌, ℕ, ◌<◌, ◌≤◌, min, List, length, take, Ok, Err, Result, sym, ap, ◌∙◌, subst, ⊎_elim, arith}
use Rattle.std.proofs.lemmas.List.{take_all}
use Rattle.std.proofs.lemmas.Bool.{cases_lt}
use Rattle.cube.specs.declared.cube.Cube.{Cube}
use Rattle.reader.specs.Reading.{Sheet, read}
use Rattle.sheet.specs.Refusing.{Answered}
use Rattle.minimizer.specs.declared.refusal.MinimizeRefusal.{MinimizeRefusal}
use Rattle.minimizer.specs.declared.refusal.PrintRefusal.{PrintRefusal}
use Rattle.minimizer.specs.declared.refusal.PrintRefusal.TheVariants.{Minimize}
use Rattle.minimizer.specs.declared.report.Minimized.{Minimized}
use Rattle.minimizer.specs.Minimizing.{shrinkable, minimized_of, minimized_answer, FirstLeft}
use Rattle.minimizer.specs.Printing.{reading, printout_or, printable, printable_text}

-- the first bytes of a memory, as far as it goes
first_bytes : (m : List ℕ) (len end : ℕ) → end ≡ min len (length m) → take end m ≡ take len m
first_bytes m len end is =
    ⊎_elim
    (λ (l : len < length m). let e : end ≡ len = omega arith in ap (λ n. take n m) e)
    (λ (l : length m ≤ len).
    let e : end ≡ length m = omega arith in
    ap (λ n. take n m) e ∙ take_all (length m) m (omega arith) ∙ sym (take_all len m l))
    (cases_lt len (length m))

-- the sheet that is shrunk in memory of these sizes
same_sheet : (m : List ℕ) (len end p l w : ℕ) → end ≡ min len (length m) → p ≡ 960 → l ≡ 960 → w ≡ 962 → shrinkable p w (read l (take end m)) ≡ shrinkable 960 962 (reading m len)
same_sheet m len end p l w is a b c = (λ i. shrinkable (a i) (c i) (read (b i) (first_bytes m len end is i)))

pub call_refused : (m n : List ℕ) (len end p l w : ℕ) (why : MinimizeRefusal) → end ≡ min len (length m) → p ≡ 960 → l ≡ 960 → w ≡ 962
    → Err why ≡ minimized_answer (shrinkable p w (read l (take end m))) → n ≡ m
    → Answered (printable_text m (reading m len)) m (Err (Minimize why)) n
unfolding printable_text
call_refused m n len end p l w why is a b c e same = by (shrinkable 960 962 (reading m len)) (e ∙ ap minimized_answer (same_sheet m len end p l w is a b c))
  where
    by : (x : Result Sheet MinimizeRefusal) → Err why ≡ minimized_answer x → Answered (printable m x) m (Err (Minimize why)) n
    by (Ok s) h = absurd (let z : ◌≡◌ {A = ℕ} 0 1 = cc in omega arith)
    by (Err z) h = let q : why ≡ z = cc in record { answer = ap (λ y. Err (Minimize y)) q; memory = same; fits = tt }

pub call_printed : (m n : List ℕ) (len end p l w : ℕ) (r : Minimized) (q : List Cube) (u : Result ℕ PrintRefusal) → end ≡ min len (length m) → p ≡ 960 → l ≡ 960 → w ≡ 962
    → Ok r ≡ minimized_answer (shrinkable p w (read l (take end m))) → FirstLeft q (shrinkable p w (read l (take end m)))
    → Answered (printout_or m r.heading.inputs r.heading.outputs r.reduced r.refined (take r.count q)) m u n
    → Answered (printable_text m (reading m len)) m u n
unfolding printable_text
call_printed m n len end p l w r q u is a b c e f h =
    let same = same_sheet m len end p l w is a b c in
    by (shrinkable 960 962 (reading m len)) (e ∙ ap minimized_answer same) (subst (FirstLeft q) same f)
  where
    by : (x : Result Sheet MinimizeRefusal) → Ok r ≡ minimized_answer x → FirstLeft q x → Answered (printable m x) m u n
    by (Ok s) g first =
        let same : r ≡ minimized_of s = cc in
        let count = ap (λ y. y.count) same in
        let left = ap (λ k. take k q) count ∙ first.0 in
        subst (λ y. Answered y m u n)
        ((λ i. printout_or m (same i).heading.inputs (same i).heading.outputs (same i).reduced (same i).refined (left i))) h
    by (Err y) g first = absurd (let z : ◌≡◌ {A = ℕ} 0 1 = cc in omega arith)
