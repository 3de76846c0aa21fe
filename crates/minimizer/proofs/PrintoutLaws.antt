-- The printout: the lines of two runs, one after the other.
-- Assumes nothing.
use Rattle.std.proofs.Common.{◌≡◌, ℕ, ◌+◌, ◌≤◌, true, List, ◌++◌, length, Some, refl, ap, ◌∙◌, arith}
use Rattle.std.proofs.lemmas.List.Edits.{length-paste}
use Rattle.std.proofs.lemmas.Bool.{cond-true, le-leb}
use Rattle.sheet.specs.Reporting.{past_within, kept_from}
use Rattle.sheet.specs.Writing.{written, Put, has_room}
use Rattle.sheet.proofs.PutLaws.{put_put}

-- one text and then another, each of which fits
pub runs_put : (m n k : List ℕ) (q : ℕ) (s t : List ℕ) → length s + length t ≤ length m → Some q ≡ past_within m 0 s → n ≡ kept_from m 0 s → k ≡ kept_from n q t
    → k ≡ written m 0 (s ++ t)
runs_put m n k q s t room past first second =
    let fits : has_room m 0 s ≡ true = le-leb (0 + length s) (length m) (omega arith) in
    let at : Some q ≡ Some (0 + length s) = past ∙ cond-true _ _ _ fits in
    let is : q ≡ 0 + length s = cc in
    let one : n ≡ written m 0 s = first ∙ cond-true _ _ _ fits in
    let long : length n ≡ length m = ap length one ∙ length-paste m 0 s (length s) (omega arith) (omega arith) in
    let two : k ≡ written n q t = second ∙ cond-true _ _ _ (le-leb (q + length t) (length n) (omega arith)) in
    let b : Put n q t k (q + length t) = record { memory = two; past = refl } in
    (put_put s t (omega arith) (record { memory = one; past = is }) b).memory
