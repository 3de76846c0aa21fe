-- How a table of 2 ^ k bytes is split, said of its two halves.
-- Assumes nothing.
use Rattle.std.proofs.Common.{◌≡◌, ℕ, zero, suc, ◌+◌, ◌-◌, ◌/◌, ◌^◌, ◌≤◌, Bool, true, false, cond, ◌&&◌, eqb, leb, List, [], ◌∷◌, ◌++◌, length, get_or, take, drop, Some, None, sym, refl, ap, ◌∙◌, ap₂, pow-suc, arith}
use Rattle.std.proofs.lemmas.List.{length-append, length-drop, take_all}
use Rattle.std.proofs.lemmas.Bool.Decides.{nat_tests}
use Rattle.cube.specs.Cubes.{with_form}
use Rattle.cube.specs.declared.cube.Cube.{Cube}
use Rattle.expansion.specs.Tables.{mixed, turned}
use Rattle.expansion.specs.Splits.{cheapest, spent, low, high, sum, first_part, second_part, first_form, second_form, first_from}
use Rattle.expansion.specs.Expansions.{Expansion, cost, products, split_by, chosen, split_at, needed, chosen_products}
use Rattle.expansion.specs.declared.split.Split.{Split}
use Rattle.expansion.specs.declared.split.Split.TheVariants.{Shannon, PositiveDavio, NegativeDavio}
use Rattle.expansion.proofs.TableLaws.{half_is, two_halves, low_length, high_length, folded_length, high_folded, folded_twice}

-- the split of a table of more than one byte
abbrev pub taken : ℕ → List ℕ → Split
taken zero t = Shannon
taken (suc k) t = split_by k (chosen k) t

pub taken_is : (k : ℕ) (t : List ℕ) (s : Split) → Some s ≡ split_at k t → (k ≡ 0 → ⊥) × (s ≡ taken k t)
taken_is zero t s e = absurd (let z : ◌≡◌ {A = ℕ} 0 1 = cc in omega arith)
taken_is (suc k) t s e = (λ z. omega arith, cc)

pub leaf_from : (k : ℕ) (t : List ℕ) → None ≡ split_at k t → k ≡ 0
leaf_from zero t e = refl
leaf_from (suc k) t e = absurd (let z : ◌≡◌ {A = ℕ} 0 1 = cc in omega arith)

-- what the parts of a split need together
pub spent_is : (s : Split) (k : ℕ) (t : List ℕ)
    → spent s (needed k (low k t)) (needed k (high k t)) (needed k (sum k t)) ≡ needed k (first_part s k t) + needed k (second_part s k t)
spent_is Shannon k t = refl
spent_is PositiveDavio k t = refl
spent_is NegativeDavio k t = refl

-- of all splits the one taken spends least
pub cheapest_least : (s : Split) (a b c : ℕ) → spent (cheapest a b c) a b c ≤ spent s a b c
cheapest_least s a b c = go s (leb b a && leb c a) refl (leb a b && leb c b) refl
  where
    go : (s : Split) (u : Bool) → (leb b a && leb c a) ≡ u → (v : Bool) → (leb a b && leb c b) ≡ v
        → spent (cond u NegativeDavio (cond v PositiveDavio Shannon)) a b c ≤ spent s a b c
    go Shannon true p v q = grind (arith, nat_tests)
    go PositiveDavio true p v q = grind (arith, nat_tests)
    go NegativeDavio true p v q = grind (arith, nat_tests)
    go Shannon false p true q = grind (arith, nat_tests)
    go PositiveDavio false p true q = grind (arith, nat_tests)
    go NegativeDavio false p true q = grind (arith, nat_tests)
    go Shannon false p false q = grind (arith, nat_tests)
    go PositiveDavio false p false q = grind (arith, nat_tests)
    go NegativeDavio false p false q = grind (arith, nat_tests)

pub needed_suc : (k : ℕ) (t : List ℕ) → needed (suc k) t ≡ needed k (first_part (taken (suc k) t) k t) + needed k (second_part (taken (suc k) t) k t)
unfolding cost chosen
needed_suc k t = refl

products_suc : (k : ℕ) (t : List ℕ) (c : Cube)
    → let s = taken (suc k) t in
    chosen_products (suc k) t c ≡ chosen_products k (first_part s k t) (with_form c k (first_form s)) ++ chosen_products k (second_part s k t) (with_form c k (second_form s))
unfolding products chosen
products_suc k t c = refl

pub length_products : (k : ℕ) (e : Expansion k) (t : List ℕ) (c : Cube) → length (products k e t c) ≡ cost k e t
unfolding products cost
length_products zero e t c = go (eqb (get_or t 0 0) 1)
  where
    go : (b : Bool) → length (cond b (c ∷ []) []) ≡ cond b 1 0
    go true = refl
    go false = refl
length_products (suc k) e t c =
    length-append (products k e.1 _ _) _ ∙ ap₂ ◌+◌ (length_products k e.1 _ _) (length_products k e.2 _ _)

-- what a table of one byte needs
pub needed_leaf : (k : ℕ) (t : List ℕ) → k ≡ 0 → needed k t ≡ cond (eqb (get_or t 0 0) 1) 1 0
unfolding cost
needed_leaf zero t e = refl
needed_leaf (suc k) t e = absurd (omega arith)

pub products_leaf : (k : ℕ) (t : List ℕ) (c : Cube) → k ≡ 0 → chosen_products k t c ≡ cond (eqb (get_or t 0 0) 1) (c ∷ []) []
unfolding products
products_leaf zero t c e = refl
products_leaf (suc k) t c e = absurd (omega arith)

-- a table of 2 ^ k bytes has 2 ^ k leaves
pub cost_few : (k : ℕ) (e : Expansion k) (t : List ℕ) → cost k e t ≤ 2 ^ k
unfolding cost
cost_few zero e t = go (eqb (get_or t 0 0) 1)
  where
    go : (b : Bool) → cond b 1 0 ≤ 1
    go true = omega arith
    go false = omega arith
cost_few (suc k) e t =
    let p = pow-suc 2 k in
    let a = cost_few k e.1 (first_part e.0 k t) in
    let b = cost_few k e.2 (second_part e.0 k t) in
    omega arith

-- the parts of a split, by half the length of the table
abbrev pub first_of : Split → ℕ → List ℕ → List ℕ
first_of s h t = take h (drop (first_from s h) t)

abbrev pub second_of : Split → ℕ → List ℕ → List ℕ
second_of s h t = drop h (turned s h t)

module _ (h : ℕ) (t : List ℕ) (two : h + h ≡ length t) where
  pub first_length : (s : Split) → length (first_of s h t) ≡ h
  first_length Shannon = low_length h t two
  first_length PositiveDavio = low_length h t two
  first_length NegativeDavio = ap length (take_all h (drop h t) (let l = high_length h t two in omega arith)) ∙ high_length h t two

  pub turned_length : (s : Split) → length (turned s h t) ≡ length t
  turned_length Shannon = refl
  turned_length PositiveDavio = folded_length h t two
  turned_length NegativeDavio = folded_length h t two

  pub second_length : (s : Split) → length (second_of s h t) ≡ h
  second_length s = length-drop h (turned s h t) ∙ ap (λ m. m - h) (turned_length s) ∙ omega arith

  pub turned_twice : (s : Split) → turned s h (turned s h t) ≡ t
  turned_twice Shannon = refl
  turned_twice PositiveDavio = folded_twice h t two
  turned_twice NegativeDavio = folded_twice h t two

first_is : (s : Split) (k : ℕ) (t : List ℕ) → 2 ^ k + 2 ^ k ≡ length t → first_of s (2 ^ k) t ≡ first_part s k t
first_is Shannon k t two = refl
first_is PositiveDavio k t two = refl
first_is NegativeDavio k t two = take_all (2 ^ k) (drop (2 ^ k) t) (let l = high_length (2 ^ k) t two in omega arith)

second_is : (s : Split) (k : ℕ) (t : List ℕ) → 2 ^ k + 2 ^ k ≡ length t → second_of s (2 ^ k) t ≡ second_part s k t
second_is Shannon k t two = refl
second_is PositiveDavio k t two = high_folded (2 ^ k) t two
second_is NegativeDavio k t two = high_folded (2 ^ k) t two

-- a table of 2 ^ k bytes and more than one, by its two halves
module _ (k : ℕ) (t : List ℕ) (nz : k ≡ 0 → ⊥) (len : length t ≡ 2 ^ k) where
  pub settled : (a b c : ℕ) → a ≡ needed (k - 1) (take (length t / 2) t) → b ≡ needed (k - 1) (drop (length t / 2) t)
      → c ≡ needed (k - 1) (mixed (drop (length t / 2) t) (take (length t / 2) t))
      → (Some (cheapest a b c) ≡ split_at k t) × (spent (cheapest a b c) a b c ≡ needed k t)
  settled a b c ea eb ec = go k nz (half_is k (length t) nz len) ea eb ec
    where
      go : (k : ℕ) → (k ≡ 0 → ⊥) → length t / 2 ≡ 2 ^ (k - 1) → a ≡ needed (k - 1) (take (length t / 2) t) → b ≡ needed (k - 1) (drop (length t / 2) t)
          → c ≡ needed (k - 1) (mixed (drop (length t / 2) t) (take (length t / 2) t))
          → (Some (cheapest a b c) ≡ split_at k t) × (spent (cheapest a b c) a b c ≡ needed k t)
      go zero nz half ea eb ec = absurd (nz refl)
      go (suc j) nz half ea eb ec =
          let q : suc j - 1 ≡ j = omega arith in
          let h : length t / 2 ≡ 2 ^ j = half ∙ ap (λ m. 2 ^ m) q in
          let a' : a ≡ needed j (low j t) = ea ∙ ap₂ needed q (ap (λ m. take m t) h) in
          let b' : b ≡ needed j (high j t) = eb ∙ ap₂ needed q (ap (λ m. drop m t) h) in
          let c' : c ≡ needed j (sum j t) = ec ∙ ap₂ needed q (ap (λ m. mixed (drop m t) (take m t)) h) in (
            λ i. Some (cheapest (a' i) (b' i) (c' i)),
            (λ i. spent (cheapest (a' i) (b' i) (c' i)) (a' i) (b' i) (c' i)) ∙ spent_is (taken (suc j) t) j t ∙ sym (needed_suc j t),
          )

  -- the products of its chosen expansion, first those of the first part
  pub emitted : (c : Cube) → let s = taken k t in let h = length t / 2 in
      (chosen_products k t c
      ≡ chosen_products (k - 1) (first_of s h t) (with_form c (k - 1) (first_form s)) ++ chosen_products (k - 1) (second_of s h t) (with_form c (k - 1) (second_form s)))
      × (needed k t ≡ needed (k - 1) (first_of s h t) + needed (k - 1) (second_of s h t))
  emitted c = go k nz (half_is k (length t) nz len) (two_halves k (length t) nz len)
    where
      go : (k : ℕ) → (k ≡ 0 → ⊥) → length t / 2 ≡ 2 ^ (k - 1) → length t / 2 + length t / 2 ≡ length t → let s = taken k t in let h = length t / 2 in
          (chosen_products k t c
          ≡ chosen_products (k - 1) (first_of s h t) (with_form c (k - 1) (first_form s)) ++ chosen_products (k - 1) (second_of s h t) (with_form c (k - 1) (second_form s)))
          × (needed k t ≡ needed (k - 1) (first_of s h t) + needed (k - 1) (second_of s h t))
      go zero nz half two = absurd (nz refl)
      go (suc j) nz half two =
          let s = taken (suc j) t in
          let q : suc j - 1 ≡ j = omega arith in
          let h : length t / 2 ≡ 2 ^ j = half ∙ ap (λ m. 2 ^ m) q in
          let tw : 2 ^ j + 2 ^ j ≡ length t = ap (λ m. m + m) (sym h) ∙ two in
          let f : first_of s (length t / 2) t ≡ first_part s j t = ap (λ m. first_of s m t) h ∙ first_is s j t tw in
          let g : second_of s (length t / 2) t ≡ second_part s j t = ap (λ m. second_of s m t) h ∙ second_is s j t tw in (
            products_suc j t c
                ∙ sym (λ i. chosen_products (q i) (f i) (with_form c (q i) (first_form s)) ++ chosen_products (q i) (g i) (with_form c (q i) (second_form s))),
            needed_suc j t ∙ sym (λ i. needed (q i) (f i) + needed (q i) (g i)),
          )
