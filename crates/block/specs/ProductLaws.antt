-- Block products keep the laws of a kind of product.
-- Assumes nothing.
use Rattle.std.specs.Prelude.{◌≡◌, ℕ, suc, ◌^◌, ◌<◌, ◌≤◌, Bool, true, false, cond, not, ◌&&◌, List, [], ◌∷◌, length, ◌==◌, ◌≢◌, nat_lt, slice_index, slice_set, refl}
use Rattle.std.proofs.Common.{sym, ap, ◌∙◌, inl, inr, mul-le-mul, arith, get_or-set_same, get_or-set_other}
use Rattle.std.proofs.Math.Nat.{pow-succ', pow-le-pow_right}
use Rattle.std.specs.Int.Bits.{bit_xor}
use Rattle.std.proofs.lemmas.Bool.{eqb-false, eq-eqb, ne_eqb, ltb-true, lt-ltb, le-ltb, and_parts, and_right, cases_eq, cases_lt, cond-true, cond-false, not-true}
use Rattle.esop.specs.Kind.{Positions, Laws, differs, either}
use Rattle.esop.specs.Positionwise.{everywhere}
use Rattle.esop.proofs.Positionwise.{and_either, positionwise_lawful}
use Rattle.cube.specs.BitLaws.{xor_some}
use Rattle.cube.specs.PositionLaws.{mixed_bit}
use Rattle.block.specs.Blocks.{made, value}
use Rattle.block.specs.Products.{group, passes, taken, joined, weight_of, blocks}
use Rattle.block.specs.declared.block.BlockProduct.{BlockProduct}
use Rattle.block.specs.MakingLaws.{made_bytes, bytes_length, value_nonzero, sound_set}
use Rattle.block.specs.SizeLaws.{size_most}

-- the bytes after one of them is replaced
set_at : (bs : List ℕ) (g b j : ℕ) → g < length bs → slice_index (slice_set bs g b) j ≡ cond (g == j) b (slice_index bs j)
set_at bs g b j l =
    elim (cases_eq g j) [
      | inl e ↦ ap (λ k. slice_index (slice_set bs g b) k) (sym e) ∙ get_or-set_same bs g b 0 l ∙ sym (cond-true _ _ _ (eq-eqb g j e))
      | inr ne ↦ get_or-set_other bs g j b 0 (λ e. ne (sym e)) ∙ sym (cond-false _ _ _ (ne_eqb g j ne))
    ]

replaced_value : (a : BlockProduct) (g b j : ℕ) → g < 8 → 0 < b → value (made (slice_set a.bytes g b)) j ≡ cond (g == j) b (value a j)
replaced_value a g b j l p =
    let long = bytes_length a in
    ap (λ bs. slice_index bs j) (made_bytes (slice_set a.bytes g b) (sound_set a.bytes g b a.eight p))
    ∙ set_at a.bytes g b j (omega arith)

-- at the replaced position, a byte of one position is a byte of the other
same_place : (i j : ℕ) (b : BlockProduct) (v : ℕ) → cond (i == j) (value b i) v ≡ cond (i == j) (value b j) v
same_place i j b v =
    elim (cases_eq i j) [
      | inl e ↦ ap (λ k. cond (i == j) (value b k) v) e
      | inr ne ↦ cond-false _ _ _ (ne_eqb i j ne) ∙ sym (cond-false _ _ _ (ne_eqb i j ne))
    ]

take_value : (a b : BlockProduct) (i j : ℕ) → j < 8 → value (taken a i b) j ≡ cond (i == j) (value b j) (value a j)
take_value a b i j l =
    elim (cases_lt i 8) [
      | inl inside ↦
          ap (λ p. value p j) (cond-true _ _ _ (lt-ltb i 8 inside)) ∙ replaced_value a i (value b i) j inside (value_nonzero b i inside)
          ∙ same_place i j b (value a j)
      | inr past ↦
          ap (λ p. value p j) (cond-false _ _ _ (le-ltb i 8 past)) ∙ sym (cond-false _ _ _ (ne_eqb i j (λ e. omega arith)))
    ]

differ_values : (a b : BlockProduct) (g : ℕ) → differs blocks a b g ≡ true → (g < 8) × (value a g ≢ value b g)
differ_values a b g d =
    let (inside, apart) = and_parts (nat_lt g 8) (not (value a g == value b g)) d in
    (ltb-true g 8 inside, eqb-false (value a g) (value b g) (not-true _ apart))

join_value : (a b : BlockProduct) (i j : ℕ) → differs blocks a b i ≡ true → value (joined a i b) j ≡ cond (i == j) (bit_xor (value a i) (value b i)) (value a j)
join_value a b i j d =
    let (inside, apart) = differ_values a b i d in
    ap (λ p. value p j) (cond-true _ _ _ d) ∙ replaced_value a i (bit_xor (value a i) (value b i)) j inside (xor_some (value a i) (value b i) apart)

positions : Positions blocks
positions =
    record {
      width_bounds = (omega arith, omega arith);
      take_past = λ a b i past. cond-false _ _ _ (le-ltb i 8 past);
      take_value = take_value;
      join_none = λ a b i same. cond-false _ _ _ same;
      join_value = λ a b i j d _. join_value a b i j d;
    }

-- each size is at most 3, so eight of them multiply to at most 3 ^ 8
weight_pow : (bs : List ℕ) → weight_of bs ≤ 3 ^ length bs
weight_pow [] = omega arith
weight_pow (b ∷ bs) = rw pow-succ' (mul-le-mul (size_most b) (weight_pow bs))

pub weight_most : (bs : List ℕ) → length bs ≤ 8 → weight_of bs ≤ 6561
weight_most bs l =
    let up : 3 ^ length bs ≤ 3 ^ 8 = pow-le-pow_right {n = 3} (omega arith) l in
    let here = weight_pow bs in
    omega arith

-- position g with byte b lets the point through, of which there are 2 ^ 24
abbrev meets : ℕ → ℕ → ℕ → Bool
meets g b x = nat_lt x (2 ^ 24) && passes g b x

-- a test that every position shares may stand in front of them all
everywhere_and : (t : Bool) (f : ℕ → Bool) (n : ℕ) → (t && everywhere f (suc n)) ≡ everywhere (λ i. t && f i) (suc n)
unfolding everywhere
everywhere_and true f n = refl
everywhere_and false f n = sym (and_right _ _ refl)

mixed_meets : (g u v x : ℕ) → meets g (bit_xor u v) x ≡ either (meets g u x) (meets g v x)
mixed_meets g u v x =
    ap (λ t. nat_lt x (2 ^ 24) && t) (mixed_bit u v (group x g))
    ∙ and_either (nat_lt x (2 ^ 24)) (passes g u x) (passes g v x)

pub lawful : Laws blocks
lawful =
    positionwise_lawful {m = blocks} {meets = meets} (record {
      positions = positions;
      weight_bound = λ a. weight_most a.bytes (let l = bytes_length a in omega arith);
      covers_is = λ a x. everywhere_and (nat_lt x (2 ^ 24)) (λ g. passes g (value a g) x) 7;
      mixed_meets = λ a b i x d. mixed_meets i (value a i) (value b i) x;
    })
