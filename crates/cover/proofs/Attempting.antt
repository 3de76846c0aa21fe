-- Counts and questions of a trial.
use Rattle.std.proofs.Common.{◌≡◌, ℕ, ◌+◌, ◌<◌, ◌≤◌, Bool, true, false, leb, List, length, sym, refl, ap, ◌∙◌, arith}
use Rattle.std.proofs.lemmas.List.{length-take-le}
use Rattle.std.proofs.lemmas.Bool.{leb-true, leb-false, cond-true, cond-false}
use Rattle.esop.specs.Kind.{Meaning}
use Rattle.esop.specs.History.{ran_by}
use Rattle.cover.specs.Holding.{used}
use Rattle.cover.specs.Recording.{Supplied}
use Rattle.cover.specs.declared.memory.Cover.{Cover}

module _ {P : Type 0} {N : ℕ} where
  -- a cover has as many products as it counts
  pub count_is : (c : Cover P N) → length (used c) ≡ c.count
  count_is c = length-take-le c.count c.places.now c.ok.0

  pub count_of : (c : Cover P N) (xs : List P) → used c ≡ xs → c.count ≡ length xs
  count_of c xs e = sym (count_is c) ∙ ap length e

module _ {P : Type 0} {N : ℕ} (m : Meaning P) (c : Cover P N) (work : ℕ) where
  -- question 6, by what is counted
  pub supplied_is : (n : ℕ) → n ≡ c.count + 2 → Supplied m c work (leb n work)
  unfolding ran_by
  supplied_is n e = go (leb n work) refl
    where
      same : leb (length (used c) + 2) work ≡ leb n work
      same = ap (λ k. leb k work) (ap (λ k. k + 2) (count_is c) ∙ sym e)

      go : (t : Bool) → leb n work ≡ t → Supplied m c work t
      go true z = (omega (arith, leb-true _ _ z), λ test budget. cond-true _ _ _ (same ∙ z))
      go false z = (omega (arith, leb-false _ _ z), λ test budget. cond-false _ _ _ (same ∙ z))

  pub supplied_enough : (t : Bool) → Supplied m c work t → t ≡ true → c.count + 2 ≤ work
  supplied_enough true s e = s.0
  supplied_enough false s e = absurd (let z : ◌≡◌ {A = ℕ} 0 1 = cc in omega arith)

  pub supplied_short : (t : Bool) → Supplied m c work t → t ≡ false → work < c.count + 2
  supplied_short true s e = absurd (let z : ◌≡◌ {A = ℕ} 0 1 = cc in omega arith)
  supplied_short false s e = s.0
