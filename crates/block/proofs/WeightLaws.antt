-- The sizes of the bytes of a product, multiplied by a chain.
-- Assumes nothing.
use Rattle.std.proofs.Common.{◌≡◌, ℕ, ◌*◌, ◌^◌, ◌<◌, ◌≤◌, List, [], ◌∷◌, map, length, take, Option, sym, ap, ◌∙◌, subst, arith, mul_assoc, length-take}
use Rattle.std.specs.Iterator.{Drains}
use Rattle.std.specs.Iterator.Runs.{EachRunFrom, YieldsRun}
use Rattle.std.specs.List.{fold}
use Rattle.std.proofs.lemmas.List.{map-id, take-map}
use Rattle.std.proofs.lemmas.Iterator.{YieldsList}
use Rattle.std.proofs.lemmas.Iterator.Consumers.{YieldsList-so_far}
use Rattle.std.proofs.lemmas.Iterator.Adapters.{total_from_yields_List}
use Rattle.block.specs.Sizes.{size_of}
use Rattle.block.specs.Products.{weight_of}
use Rattle.block.specs.ProductLaws.{weight_most}

times_weight : (n : ℕ) (bs : List ℕ) → fold ◌*◌ n (map size_of bs) ≡ n * weight_of bs
times_weight n [] = omega arith
times_weight n (b ∷ bs) = times_weight (n * size_of b) bs ∙ mul_assoc n (size_of b) (weight_of bs)

multiplied : (bs : List ℕ) → fold ◌*◌ 1 (map size_of bs) ≡ weight_of bs
multiplied bs = times_weight 1 bs ∙ omega arith

module _ {S : Type 0} {steps : S → Option ℕ → S → Type 0} (bs : List ℕ) (s : S) (road : YieldsList steps (λ x. x) s (map size_of bs)) where
  pub weight_fits : length bs ≤ 8 → EachRunFrom steps s (λ p. fold ◌*◌ 1 p.items < 2 ^ 32)
  unfolding YieldsRun
  weight_fits l = λ p _ at.
      let n = length p.items in
      let front = YieldsList-so_far road p.items p.gave.0.0 (subst (λ u. Rattle.std.specs.Iterator.Yields steps u p.items p.gave.0.0) at p.gave.0.1) in
      let items : p.items ≡ map size_of (take n bs) = sym (map-id p.items) ∙ front ∙ take-map size_of n bs in
      let short = length-take n bs in
      let most = weight_most (take n bs) (omega arith) in
      let all : fold ◌*◌ 1 p.items ≡ weight_of (take n bs) = ap (fold ◌*◌ 1) items ∙ multiplied (take n bs) in
      omega arith

  pub weight_is : (r : ℕ) → ((xs : List ℕ) × (Unit {0} → Drains steps s xs) × (r ≡ fold ◌*◌ 1 xs)) → r ≡ weight_of bs
  weight_is r ran = total_from_yields_List ◌*◌ 1 r ran road ∙ multiplied bs
