use Rattle.std.proofs.Common.{◌≡◌, ℕ, ◌<◌, ◌≤◌, get_or}
use lib.Bits.{bit_xor}
use Rattle.expansion.proofs.halves.fold.Given as goal

-- the bytes so far are xored, and the others as they were
abbrev pub invariant-loop-i : goal.invariant-loop-i
invariant-loop-i l = record {
  xored : (k : ℕ) → k < l.i → get_or l.upper k 0 ≡ bit_xor (get_or l.initial.upper k 0) (get_or l.lower k 0);
  left : (k : ℕ) → l.i ≤ k → get_or l.upper k 0 ≡ get_or l.initial.upper k 0;
}
