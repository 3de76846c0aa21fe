-- The parts of a table of more than one byte, each of which has one input less.
-- Assumes nothing.
use Rattle.std.proofs.Common.{◌≡◌, ℕ, ◌+◌, ◌-◌, ◌/◌, ◌^◌, ◌≤◌, List, length, take, drop, sym, ap, ◌∙◌, pow_mono, arith}
use Rattle.expansion.specs.Tables.{HasInputs, mixed}
use Rattle.expansion.specs.Expansions.{needed, chosen}
use Rattle.expansion.proofs.TableLaws.{half_is, two_halves, low_length, high_length, sum_length}
use Rattle.expansion.proofs.SplitLaws.{cost_few}

module _ (k : ℕ) (t : List ℕ) (nz : k ≡ 0 → ⊥) (ins : HasInputs k t) where
  two : length t / 2 + length t / 2 ≡ length t
  two = two_halves k (length t) nz ins.1

  -- a part of half the bytes
  pub one_less : (u : List ℕ) → length u ≡ length t / 2 → HasInputs (k - 1) u
  one_less u e = let most : k ≤ 10 = ins.0 in (omega arith, e ∙ half_is k (length t) nz ins.1)

  pub low_part : (l : List ℕ) → l ≡ take (length t / 2) t → HasInputs (k - 1) l
  low_part l e = one_less l (ap length e ∙ low_length (length t / 2) t two)

  pub high_part : (u : List ℕ) → u ≡ drop (length t / 2) t → HasInputs (k - 1) u
  high_part u e = one_less u (ap length e ∙ high_length (length t / 2) t two)

  pub sum_part : (m : List ℕ) → m ≡ mixed (drop (length t / 2) t) (take (length t / 2) t) → HasInputs (k - 1) m
  sum_part m e = one_less m (ap length e ∙ sum_length (length t / 2) t two)

-- two parts of so many inputs have as many bytes
pub as_long : (k : ℕ) (l u : List ℕ) → HasInputs k l → HasInputs k u → length l ≡ length u
as_long k l u p q = p.1 ∙ sym q.1

-- what a part needs
pub few : (k n : ℕ) (u : List ℕ) → HasInputs k u → n ≡ needed k u → n ≤ 1024
few k n u p e =
    let a = cost_few k (chosen k u) u in
    let most : k ≤ 10 = p.0 in
    let b : 2 ^ k ≤ 2 ^ 10 = pow_mono most in
    omega arith
