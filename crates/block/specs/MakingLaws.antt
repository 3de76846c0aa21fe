-- A block product is what its bytes say, and any byte of it may be replaced by one that is not 0.
-- Assumes nothing.
use Rattle.std.specs.Prelude.{◌≡◌, ℕ, zero, suc, ◌<◌, ◌≤◌, Bool, true, false, not, ◌&&◌, ◌||◌, List, [], ◌∷◌, length, ◌==◌, nat_lt, slice_index, slice_set, refl}
use Rattle.std.proofs.Common.{ap, ap₂, ◌∙◌, arith, length-set}
use Rattle.std.specs.List.{list_any}
use mathlib.Core.HLevel.{is_prop→PathP}
use Rattle.std.proofs.Math.Bool.{Bool-set}
use Rattle.std.proofs.Math.ListN.{get_or-eq_default}
use Rattle.std.proofs.lemmas.Bool.{eqb-true, eq-eqb, ltb-true, lt-ltb, and_parts, and_from, and_right, false≢true}
use Rattle.std.proofs.lemmas.Bool.Decides.{nat_tests}
use Rattle.block.specs.Bytes.{nonzero, sound}
use Rattle.block.specs.Blocks.{made, made_by, value}
use Rattle.block.specs.declared.block.BlockProduct.{BlockProduct}

pub same_bytes : (a b : BlockProduct) → a.bytes ≡ b.bytes → a ≡ b
same_bytes a b p =
    λ i. record {
      bytes = p i;
      eight = is_prop→PathP (λ j. sound (p j) ≡ true) (λ j. Bool-set _ _) a.eight b.eight i;
    }

-- bytes that make a product are the bytes of that product
pub made_bytes : (bs : List ℕ) → sound bs ≡ true → (made bs).bytes ≡ bs
unfolding made
made_bytes bs h = go (sound bs) refl h
  where
    go : (t : Bool) (p : sound bs ≡ t) → t ≡ true → (made_by bs t p).bytes ≡ bs
    go true p e = refl
    go false p e = absurd (false≢true e)

pub made_is : (a : BlockProduct) → made a.bytes ≡ a
made_is a = same_bytes (made a.bytes) a (made_bytes a.bytes a.eight)

pub sound_length : (bs : List ℕ) → sound bs ≡ true → length bs ≡ 8
sound_length bs h = eqb-true (length bs) 8 (and_parts _ _ h).0

pub bytes_length : (a : BlockProduct) → length a.bytes ≡ 8
bytes_length a = sound_length a.bytes a.eight

pub value_past : (a : BlockProduct) (g : ℕ) → 8 ≤ g → value a g ≡ 0
value_past a g h = let l = bytes_length a in get_or-eq_default a.bytes 0 (omega arith)

nonzero_set : (bs : List ℕ) (g b : ℕ) → nonzero bs ≡ true → 0 < b → nonzero (slice_set bs g b) ≡ true
nonzero_set [] g b h p = refl
nonzero_set (c ∷ cs) zero b h p = and_from _ _ (lt-ltb 0 b p) (and_parts _ _ h).1
nonzero_set (c ∷ cs) (suc g) b h p = and_from _ _ (and_parts _ _ h).0 (nonzero_set cs g b (and_parts _ _ h).1 p)

pub sound_set : (bs : List ℕ) (g b : ℕ) → sound bs ≡ true → 0 < b → sound (slice_set bs g b) ≡ true
sound_set bs g b h p =
    and_from _ _ (eq-eqb (length (slice_set bs g b)) 8 (length-set bs g b ∙ sound_length bs h)) (nonzero_set bs g b (and_parts _ _ h).1 p)

-- what a look at each byte shows
nonzero_from : (bs : List ℕ) → ((k : ℕ) → k < length bs → 0 < slice_index bs k) → nonzero bs ≡ true
nonzero_from [] h = refl
nonzero_from (b ∷ bs) h = and_from _ _ (lt-ltb 0 b (h 0 (omega arith))) (nonzero_from bs (λ k l. h (suc k) (omega arith)))

pub sound_from : (bs : List ℕ) → length bs ≡ 8 → ((k : ℕ) → k < 8 → 0 < slice_index bs k) → sound bs ≡ true
sound_from bs l h = and_from _ _ (eq-eqb (length bs) 8 l) (nonzero_from bs (λ k m. h k (omega arith)))

nonzero_at : (bs : List ℕ) (k : ℕ) → nonzero bs ≡ true → k < length bs → 0 < slice_index bs k
nonzero_at [] k h l = absurd (omega arith)
nonzero_at (b ∷ bs) zero h l = ltb-true 0 b (and_parts _ _ h).0
nonzero_at (b ∷ bs) (suc k) h l = nonzero_at bs k (and_parts _ _ h).1 (omega arith)

pub value_nonzero : (a : BlockProduct) (g : ℕ) → g < 8 → 0 < value a g
value_nonzero a g l = let m = bytes_length a in nonzero_at a.bytes g (and_parts _ _ a.eight).1 (omega arith)

-- bytes among which 0 is not found, and bytes among which it is
without_zero : (bs : List ℕ) → nonzero bs ≡ not (list_any (λ b. b == 0) bs)
without_zero [] = refl
without_zero (b ∷ bs) = ap₂ (λ t u. t && u) (is_not b) (without_zero bs) ∙ neither (b == 0) (list_any (λ b. b == 0) bs)
  where
    is_not : (b : ℕ) → nat_lt 0 b ≡ not (b == 0)
    is_not b = grind (arith, nat_tests)

    neither : (t u : Bool) → (not t && not u) ≡ not (t || u)
    neither true u = refl
    neither false u = refl

pub sound_without : (bs : List ℕ) → list_any (λ b. b == 0) bs ≡ false → length bs ≡ 8 → sound bs ≡ true
sound_without bs h l = and_from _ _ (eq-eqb (length bs) 8 l) (without_zero bs ∙ ap not h)

pub unsound_with : (bs : List ℕ) → list_any (λ b. b == 0) bs ≡ true → sound bs ≡ false
unsound_with bs h = and_right _ _ (without_zero bs ∙ ap not h)
