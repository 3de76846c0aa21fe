-- Decimal numbers, for the loop that reads one.
-- Assumes nothing.
use Rattle.std.proofs.Common.{◌≡◌, ℕ, ◌+◌, ◌-◌, ◌*◌, ◌<◌, ◌≤◌, true, List, [], ◌∷◌, length, get_or, drop, Some, None, ap, ◌∙◌, ⊎_elim, arith}
use Rattle.std.proofs.lemmas.List.{at_drop_more}
use Rattle.std.proofs.lemmas.Bool.{cond-true, cond-false, and_right, and_from, le-leb, lt-leb, cases_Bool}
use Rattle.std.specs.Char.{IsDigitOf}
use Rattle.reader.specs.Numbers.{is_digit, value_from, within}

pub value_more : (n : ℕ) (cs : List ℕ) (i : ℕ) → i < length cs → is_digit (get_or cs i 0) ≡ true → value_from n (drop i cs) ≡ value_from (n * 10 + (get_or cs i 0 - 48)) (drop (i + 1) cs)
value_more n cs i h e = at_drop_more (value_from n) cs i 0 h ∙ cond-true _ _ _ e

-- a number only grows
pub value_over : (low high n : ℕ) (cs : List ℕ) → high < n → within low high (value_from n cs) ≡ None
value_over low high n [] h = cond-false _ _ _ (and_right _ _ (lt-leb n high h))
value_over low high n (c ∷ cs) h =
    ⊎_elim (λ e. ap (within low high) (cond-true _ _ _ e) ∙ value_over low high (n * 10 + (c - 48)) cs (omega arith))
    (λ e. ap (within low high) (cond-false _ _ _ e)) (cases_Bool (is_digit c))

-- one digit more that takes it past the end
pub value_past : (low high n : ℕ) (cs : List ℕ) (i : ℕ) → i < length cs → is_digit (get_or cs i 0) ≡ true → high < n * 10 + (get_or cs i 0 - 48)
    → within low high (value_from n (drop i cs)) ≡ None
value_past low high n cs i h e k = ap (within low high) (value_more n cs i h e) ∙ value_over low high _ (drop (i + 1) cs) k

-- a digit, as it is read
pub digit_read : (c d : ℕ) → IsDigitOf c d → d < 10 → (is_digit c ≡ true) × (d ≡ c - 48)
digit_read c d h lt =
    ⊎_elim (λ a. (and_from _ _ (le-leb 48 c (omega arith)) (le-leb c 57 (omega arith)), omega arith))
    (λ b. absurd (⊎_elim (λ x. omega arith) (λ x. omega arith) b)) h

pub within_in : (low high n : ℕ) → low ≤ n → n ≤ high → within low high (Some n) ≡ Some n
within_in low high n h k = cond-true _ _ _ (and_from _ _ (le-leb low n h) (le-leb n high k))
