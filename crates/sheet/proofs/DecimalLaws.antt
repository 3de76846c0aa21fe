-- A number below 1000 in decimal, digit by digit and as it is printed.
-- Assumes nothing.
use Rattle.std.proofs.Common.{◌≡◌, ℕ, ◌+◌, ◌/◌, ◌<◌, ◌≤◌, true, [], ◌∷◌, length, ◌++◌, decimal, sym, ap, ap₂, ◌∙◌, ⊎_elim, arith, length-append}
use Rattle.std.proofs.lemmas.Fmt.{decimal_digit, decimal_step}
use Rattle.std.proofs.lemmas.Bool.{cases_lt, cond-true, cond-false, lt-ltb, le-ltb}
use Rattle.std.proofs.lemmas.Bool.Decides.{nat_tests}
use Rattle.sheet.specs.Writing.{in_range}
use Rattle.sheet.proofs.PutLaws.{heading_length}
use Rattle.sheet.specs.Text.{digit, decimal as decimal_text}

one_digit : (n : ℕ) → n < 10 → decimal n ≡ decimal_text n
unfolding decimal_text
one_digit n h =
    let e : 48 + n ≡ digit n = omega arith in
    decimal_digit n h ∙ ap (λ k. k ∷ []) e ∙ sym (cond-true _ _ _ (lt-ltb n 10 h))

two_digits : (n : ℕ) → 10 ≤ n → n < 100 → decimal n ≡ decimal_text n
unfolding decimal_text
two_digits n l h =
    let e : 48 + n / 10 ≡ digit (n / 10) = omega arith in
    decimal_step n l (omega arith) ∙ ap (λ ds. ds ++ digit n ∷ []) (decimal_digit (n / 10) (omega arith)) ∙ ap (λ k. k ∷ digit n ∷ []) e
    ∙ sym (cond-false _ _ _ (le-ltb n 10 l) ∙ cond-true _ _ _ (lt-ltb n 100 h))

three_digits : (n : ℕ) → 100 ≤ n → n < 1000 → decimal n ≡ decimal_text n
unfolding decimal_text
three_digits n l h =
    let m : n / 10 / 10 ≡ n / 100 = omega arith in
    let e : 48 + n / 10 / 10 ≡ digit (n / 100) = omega arith in
    decimal_step n (omega arith) (omega arith)
    ∙ ap (λ ds. ds ++ digit n ∷ []) (decimal_step (n / 10) (omega arith) (omega arith) ∙ ap (λ ds. ds ++ digit (n / 10) ∷ []) (decimal_digit (n / 10 / 10) (omega arith)))
    ∙ ap (λ k. k ∷ digit (n / 10) ∷ digit n ∷ []) e
    ∙ sym (cond-false _ _ _ (le-ltb n 10 (omega arith)) ∙ cond-false _ _ _ (le-ltb n 100 l))

-- the digits that it is written with
pub one_written : (n x : ℕ) → n < 10 → x ≡ digit n → x ∷ [] ≡ decimal_text n
unfolding decimal_text
one_written n x h e = ap (λ k. k ∷ []) e ∙ sym (cond-true _ _ _ (lt-ltb n 10 h))

pub two_written : (n x y : ℕ) → 10 ≤ n → n < 100 → x ≡ digit (n / 10) → y ≡ digit n → x ∷ y ∷ [] ≡ decimal_text n
unfolding decimal_text
two_written n x y l h e f =
    ap₂ (λ j k. j ∷ k ∷ []) e f ∙ sym (cond-false _ _ _ (le-ltb n 10 l) ∙ cond-true _ _ _ (lt-ltb n 100 h))

pub three_written : (n x y z : ℕ) → 100 ≤ n → x ≡ digit (n / 100) → y ≡ digit (n / 10) → z ≡ digit n → x ∷ y ∷ z ∷ [] ≡ decimal_text n
unfolding decimal_text
three_written n x y z l e f g =
    ap (λ k. k ∷ y ∷ z ∷ []) e ∙ ap₂ (λ j k. digit (n / 100) ∷ j ∷ k ∷ []) f g
    ∙ sym (cond-false _ _ _ (le-ltb n 10 (omega arith)) ∙ cond-false _ _ _ (le-ltb n 100 l))

pub decimal_short : (n : ℕ) → n < 1000 → decimal n ≡ decimal_text n
decimal_short n h = ⊎_elim (one_digit n) (λ l. ⊎_elim (two_digits n l) (λ m. three_digits n m h) (cases_lt n 100)) (cases_lt n 10)

pub decimal_short_length : (n : ℕ) → n < 1000 → length (decimal n) ≡ length (decimal_text n)
decimal_short_length n h = ap length (decimal_short n h)

-- no number of a heading is longer
pub range_short : (i o n : ℕ) → in_range i o n ≡ true → (i < 1000) × (o < 1000) × (n < 1000)
range_short i o n h = grind (arith, nat_tests)

-- the lengths that a line of the heading hangs on
pub ruleset heading_lengths = (length-append, heading_length, decimal_short_length)
