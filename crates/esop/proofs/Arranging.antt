-- Order numbers name the arrangements of a list, all of them, in dictionary order.
use Rattle.std.proofs.Common.{◌≡◌, ℕ, zero, suc, ◌+◌, ◌*◌, ◌/◌, ◌%◌, ◌<◌, ◌≤◌, Bool, true, false, eqb, ◌⊎◌, List, [], ◌∷◌, length, get_or, sym, refl, ap, subst, ap₂, inl, inr, mul-le-mul_right, mod-lt, suc-mul, div-lt_iff_lt-mul, div-add-mod', arith}
use lib.Arith.{digits_lt, digits_div, digits_mod}
use Rattle.std.specs.List.{remove}
use Rattle.std.proofs.lemmas.List.Edits.{length-remove, get_or-remove_below, get_or-remove_above}
use Rattle.std.proofs.lemmas.List.{nil_from_length}
use Rattle.std.proofs.lemmas.Bool.{cases_lt, cases_order, eqb-true, eq-eqb}
use Rattle.esop.specs.Entering.{bit}
use Rattle.esop.specs.Linking.{factorial, arranged, occurs, Before, Ascending}
use Rattle.esop.specs.Claims.{Arranges}

pub factorial_pos : (n : ℕ) → 0 < factorial n
factorial_pos zero = omega arith
factorial_pos (suc n) = let h = factorial_pos n in omega arith

pub factorial_most : (k : ℕ) → k ≤ 4 → factorial k ≤ 24
factorial_most zero l = omega arith
factorial_most (suc zero) l = omega arith
factorial_most (suc (suc zero)) l = omega arith
factorial_most (suc (suc (suc zero))) l = omega arith
factorial_most (suc (suc (suc (suc zero)))) l = omega arith
factorial_most (suc (suc (suc (suc (suc k))))) l = absurd (omega arith)

-- an order number names the place of the number that comes first, and an order of the others
pub order_first : (n o : ℕ) → o < factorial (suc n) → o / factorial n < suc n
order_first n o l = (div-lt_iff_lt-mul (factorial_pos n)).1 l

pub order_rest : (n o : ℕ) → o % factorial n < factorial n
order_rest n o = mod-lt o (factorial_pos n)

pub length_arranged : (k o : ℕ) (ds : List ℕ) → length (arranged k o ds) ≡ k
unfolding arranged
length_arranged zero o ds = refl
length_arranged (suc n) o ds = ap suc (length_arranged n (o % factorial n) (remove ds (o / factorial n)))

occurs_removed : (j : ℕ) (ds : List ℕ) (i : ℕ) → i < length ds → occurs j ds ≡ bit (eqb (get_or ds i 0) j) + occurs j (remove ds i)
occurs_removed j [] i l = absurd (omega arith)
occurs_removed j (d ∷ ds) zero l = refl
occurs_removed j (d ∷ ds) (suc i) l = let h = occurs_removed j ds i (omega arith) in omega arith

pub occurs_arranged : (j k o : ℕ) (ds : List ℕ) → length ds ≡ k → o < factorial k → occurs j (arranged k o ds) ≡ occurs j ds
unfolding arranged
occurs_arranged j zero o ds e l = ap (occurs j) (sym (nil_from_length ds e))
occurs_arranged j (suc n) o ds e l =
    let i : o / factorial n < length ds = rw e (order_first n o l) in
    let less = length-remove ds (o / factorial n) i in
    omega (arith, occurs_arranged j n (o % factorial n) (remove ds (o / factorial n)) (omega arith) (order_rest n o), occurs_removed j ds (o / factorial n) i)

ascending_removed : (ds : List ℕ) (i : ℕ) → i < length ds → Ascending ds → Ascending (remove ds i)
ascending_removed ds i l up j k less h =
    let s = length-remove ds i l in
    elim (cases_lt k i) [
      | inl front ↦
          omega (arith, up j k less (omega arith), get_or-remove_below ds i 0 j (omega arith) l, get_or-remove_below ds i 0 k front l)
      | inr back ↦ go back (cases_lt j i)
    ]
  where
    go : i ≤ k → (j < i) ⊎ (i ≤ j) → get_or (remove ds i) j 0 < get_or (remove ds i) k 0
    go back (inl front) =
        let s = length-remove ds i l in
        omega (arith, up j (k + 1) (omega arith) (omega arith), get_or-remove_below ds i 0 j front l, get_or-remove_above ds i 0 k back l)
    go back (inr behind) =
        let s = length-remove ds i l in
        omega (arith, up (j + 1) (k + 1) (omega arith) (omega arith), get_or-remove_above ds i 0 j behind l, get_or-remove_above ds i 0 k back l)

arranged_before : (k o o' : ℕ) (ds : List ℕ) → length ds ≡ k → Ascending ds → o < o' → o' < factorial k → Before (arranged k o ds) (arranged k o' ds)
unfolding arranged
arranged_before zero o o' ds e up l h = absurd (omega arith)
arranged_before (suc n) o o' ds e up l h =
    elim (cases_order (o / factorial n) (o' / factorial n)) [
      | inl same ↦
          (let i : o / factorial n < length ds = rw e (order_first n o (omega arith)) in
          let less = length-remove ds (o / factorial n) i in
          let both : o / factorial n * factorial n ≡ o' / factorial n * factorial n = ap (λ q. q * factorial n) same in
          let later : o % factorial n < o' % factorial n = omega (arith, div-add-mod' o (factorial n), div-add-mod' o' (factorial n)) in
          let rest = arranged_before n (o % factorial n) (o' % factorial n) (remove ds (o / factorial n)) (omega arith) (ascending_removed ds (o / factorial n) i up) later (order_rest n o') in
          inr (ap (λ q. get_or ds q 0) same, subst (λ q. Before (arranged n (o % factorial n) (remove ds (o / factorial n))) (arranged n (o' % factorial n) (remove ds q))) same rest))
      | inr (inl less) ↦ inl (up (o / factorial n) (o' / factorial n) less (rw e (order_first n o' h)))
      | inr (inr more) ↦ absurd
          (let k = mul-le-mul_right (factorial n) more in
          omega (arith, div-add-mod' o (factorial n), div-add-mod' o' (factorial n), suc-mul (o' / factorial n) (factorial n), order_rest n o'))
    ]

-- a number that occurs stands at a place
at_place : (j : ℕ) (ds : List ℕ) → 0 < occurs j ds → (i : ℕ) × (i < length ds) × (get_or ds i 0 ≡ j)
at_place j [] h = absurd (omega arith)
at_place j (d ∷ ds) h = go (at_place j ds) (eqb d j) refl h
  where
    go : (0 < occurs j ds → (i : ℕ) × (i < length ds) × (get_or ds i 0 ≡ j)) → (t : Bool) → eqb d j ≡ t → 0 < bit t + occurs j ds → (i : ℕ) × (i < suc (length ds)) × (get_or (d ∷ ds) i 0 ≡ j)
    go more true e k = (0, omega arith, eqb-true d j e)
    go more false e k = let (i, l, is) = more (omega arith) in (suc i, omega arith, is)

here_once : (z : ℕ) (zs : List ℕ) → 0 < occurs z (z ∷ zs)
here_once z zs = rw (eq-eqb z z refl) (omega arith)

within : (i n k : ℕ) → suc k ≡ suc n → i < suc k → (o : ℕ) → o < factorial n → i * factorial n + o < factorial (suc n)
within i n k e l o below = digits_lt {q = i} {m = suc n} (omega arith) below

-- the place of the first number before an order of the others
one_before : (n i o : ℕ) (ds : List ℕ) (z : ℕ) (zs : List ℕ) → get_or ds i 0 ≡ z → o < factorial n → zs ≡ arranged n o (remove ds i) → z ∷ zs ≡ arranged (suc n) (i * factorial n + o) ds
unfolding arranged
one_before n i o ds z zs is below rest =
    let q : (i * factorial n + o) / factorial n ≡ i = digits_div i below in
    let r : (i * factorial n + o) % factorial n ≡ o = digits_mod i below in
    rw (q, r) (ap₂ (λ x xs. x ∷ xs) (sym is) rest)

arranged_all : (k : ℕ) (ds zs : List ℕ) → length ds ≡ k → ((j : ℕ) → occurs j zs ≡ occurs j ds) → (o : ℕ) × (o < factorial k) × (zs ≡ arranged k o ds)
unfolding arranged
arranged_all zero ds [] e same = (0, omega arith, refl)
arranged_all zero ds (z ∷ zs) e same =
    absurd (omega (arith, here_once z zs, same z, ap (occurs z) (nil_from_length ds e)))
arranged_all (suc n) [] zs e same = absurd (omega arith)
arranged_all (suc n) (d ∷ ds) [] e same = absurd (omega (arith, here_once d ds, same d))
arranged_all (suc n) (d ∷ ds) (z ∷ zs) e same =
    let (i, l, is) = at_place z (d ∷ ds) (omega (arith, here_once z zs, same z)) in
    let less = length-remove (d ∷ ds) i l in
    let others : (j : ℕ) → occurs j zs ≡ occurs j (remove (d ∷ ds) i) = λ j. omega (arith, same j, occurs_removed j (d ∷ ds) i l, ap (λ y. bit (eqb y j)) is) in
    let (o, below, rest) = arranged_all n (remove (d ∷ ds) i) zs (omega arith) others in
    (i * factorial n + o, within i n (length ds) e l o below, one_before n i o (d ∷ ds) z zs is below rest)

pub arranges : (ds : List ℕ) → Ascending ds → Arranges ds
arranges ds up =
    record {
      arrangement = λ o l j. occurs_arranged j (length ds) o ds refl l;
      ordered = λ o o' l h. arranged_before (length ds) o o' ds refl up l h;
      complete = λ zs same. arranged_all (length ds) ds zs refl same;
    }
