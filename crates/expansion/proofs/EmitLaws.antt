-- The steps of emitting, over plain lists.
-- Assumes nothing.
use Rattle.std.proofs.Common.{◌≡◌, ℕ, ◌+◌, ◌-◌, ◌/◌, ◌≤◌, List, [], ◌∷◌, ◌++◌, length, get_or, take, drop, set, Some, None, Option, sym, refl, ap, ◌∙◌, subst, ap₂, ⊎_elim, append_assoc, arith}
use borrow.Rule.Slice.PartMut.{put_mid}
use Rattle.std.proofs.lemmas.List.{take_at, drop_at, drop-drop, drop_all, append-nil, take_rest, length-drop}
use Rattle.std.proofs.lemmas.Bool.{cases_eq, cond-true, cond-false, eq-eqb, ne_eqb}
use Rattle.cube.specs.Cubes.{with_form}
use Rattle.cube.specs.declared.cube.Cube.{Cube}
use Rattle.expansion.specs.Tables.{HasInputs, turned}
use Rattle.expansion.specs.Splits.{first_form, second_form, first_from}
use Rattle.expansion.specs.Expansions.{chosen, split_at, needed, chosen_products}
use Rattle.expansion.specs.declared.split.Split.{Split}
use Rattle.expansion.proofs.TableLaws.{upper, two_halves}
use Rattle.expansion.proofs.SurveyLaws.{one_less}
use Rattle.expansion.proofs.SplitLaws.{taken_is, leaf_from, first_of, second_of, first_length, second_length, length_products, emitted, needed_leaf, products_leaf}

-- the table u, which was t before it was surveyed: of k inputs, and split by s
pub record Surveyed (k : ℕ) (t u : List ℕ) (s : Split) : Type 0 where
  pub same : u ≡ t
  pub is : Some s ≡ split_at k u
  pub inputs : HasInputs k u

pub surveyed : {k : ℕ} {t u : List ℕ} {s : Split} {o : Option Split} → u ≡ t → o ≡ split_at k t → o ≡ Some s → HasInputs k t → Surveyed k t u s
surveyed {k} same found some inputs =
    record { same = same; is = sym some ∙ found ∙ ap (split_at k) (sym same); inputs = (inputs.0, ap length same ∙ inputs.1) }

-- the parts that are kept
module _ {k : ℕ} {t u : List ℕ} {s : Split} (w : Surveyed k t u s) where
  nz : k ≡ 0 → ⊥
  nz = (taken_is k u s w.is).0

  pub fewer : k - 1 + 1 ≡ k
  fewer = ⊎_elim (λ (e : k ≡ 0). absurd (nz e)) (λ ne. omega arith) (cases_eq k 0)

  pub halves : length u / 2 + length u / 2 ≡ length u
  halves = two_halves k (length u) nz w.inputs.1

  module _ {p : List ℕ} (ep : p ≡ first_of s (length u / 2) u) where
    pub first_inputs : HasInputs (k - 1) p
    first_inputs = one_less k u nz w.inputs p (ap length ep ∙ first_length (length u / 2) u halves s)

    module _ {q : List ℕ} (eq : q ≡ second_of s (length u / 2) u) (c : Cube) where
      both : (chosen_products k u c
          ≡ chosen_products (k - 1) (first_of s (length u / 2) u) (with_form c (k - 1) (first_form s))
          ++ chosen_products (k - 1) (second_of s (length u / 2) u) (with_form c (k - 1) (second_form s)))
          × (needed k u ≡ needed (k - 1) (first_of s (length u / 2) u) + needed (k - 1) (second_of s (length u / 2) u))
      both =
          let P : Split → Type 0 = λ s. (chosen_products k u c
          ≡ chosen_products (k - 1) (first_of s (length u / 2) u) (with_form c (k - 1) (first_form s))
          ++ chosen_products (k - 1) (second_of s (length u / 2) u) (with_form c (k - 1) (second_form s)))
          × (needed k u ≡ needed (k - 1) (first_of s (length u / 2) u) + needed (k - 1) (second_of s (length u / 2) u)) in
          subst P (sym (taken_is k u s w.is).1) (emitted k u nz w.inputs.1 c)

      pub second_inputs : HasInputs (k - 1) q
      second_inputs = one_less k u nz w.inputs q (ap length eq ∙ second_length (length u / 2) u halves s)

      pub shared : needed k t ≡ needed (k - 1) p + needed (k - 1) q
      shared = ap (needed k) (sym w.same) ∙ both.1 ∙ sym (ap₂ (λ x y. needed (k - 1) x + needed (k - 1) y) ep eq)

      pub enough : (l l' : List Cube) {m : ℕ} → needed k t ≤ length l → length l' ≡ length l → m ≡ needed (k - 1) p
          → (m ≤ length l') × (needed (k - 1) q ≤ length (take (length l' - m) (drop m l')))
      enough l l' {m} room el em =
          let all = shared in
          let rest : take (length l' - m) (drop m l') ≡ drop m l' = take_rest l' m in
          (omega arith, rw rest (rw length-drop (omega arith)))

      -- the products of the first part, and then those of the second, at the start of the list l
      pub both_placed : (l : List Cube) {a b : Cube} {m : ℕ} {l₁ l₂ r : List Cube}
          → a ≡ with_form c (k - 1) (first_form s) → b ≡ with_form c (k - 1) (second_form s)
          → m ≡ needed (k - 1) p → l₁ ≡ chosen_products (k - 1) p a ++ drop (needed (k - 1) p) l
          → r ≡ drop m l₁ → l₂ ≡ chosen_products (k - 1) q b ++ drop (needed (k - 1) q) r
          → take m l₁ ++ l₂ ≡ chosen_products k t c ++ drop (needed k t) l
      both_placed l {a} {b} {m} {l₁} {l₂} {r} ea eb em e₁ er e₂ =
          let ps = chosen_products (k - 1) p a in
          let qs = chosen_products (k - 1) q b in
          let count : length ps ≡ m = length_products (k - 1) (chosen (k - 1) p) p a ∙ sym em in
          let front : take m l₁ ≡ ps = ap (take m) e₁ ∙ take_at ps (drop (needed (k - 1) p) l) m count in
          let rest : r ≡ drop (needed (k - 1) p) l = er ∙ ap (drop m) e₁ ∙ drop_at ps (drop (needed (k - 1) p) l) m count in
          let behind : drop (needed (k - 1) q) r ≡ drop (needed k t) l =
          ap (drop (needed (k - 1) q)) rest ∙ drop-drop (needed (k - 1) q) (needed (k - 1) p) l ∙ ap (λ n. drop n l) (sym shared) in
          let parts : ps ++ qs ≡ chosen_products k t c =
          (λ i. chosen_products (k - 1) (ep i) (ea i) ++ chosen_products (k - 1) (eq i) (eb i)) ∙ sym both.0 ∙ ap (λ v. chosen_products k v c) w.same in
          ap₂ ◌++◌ front (e₂ ∙ ap (λ x. qs ++ x) behind) ∙ sym (append_assoc ps qs (drop (needed k t) l)) ∙ ap (λ x. x ++ drop (needed k t) l) parts

-- the first part as it is lent, and the second
pub first_read : (s : Split) (u : List ℕ) (from : ℕ) → from ≡ first_from s (length u / 2) → take (from + length u / 2 - from) (drop from u) ≡ first_of s (length u / 2) u
first_read s u from e = let z : from + length u / 2 - from ≡ length u / 2 = omega arith in λ i. take (z i) (drop (e i) u)

pub second_read : (s : Split) (u v : List ℕ) → v ≡ turned s (length u / 2) u → take (length v - length u / 2) (drop (length u / 2) v) ≡ second_of s (length u / 2) u
second_read s u v e = upper (length u / 2) v ∙ ap (drop (length u / 2)) e

-- the rest of a list from place m on, which is lent, goes back to its place
pub list_back : (m : ℕ) (l l₂ : List Cube) → put_mid m (length l - m) l l₂ ≡ take m l ++ l₂
list_back m l l₂ = ap (λ r. take m l ++ (l₂ ++ r)) (drop_all (length l - m) (drop m l) (omega (arith, length-drop m l))) ∙ ap (λ r. take m l ++ r) (append-nil l₂)

-- a table of one byte
module _ (k : ℕ) (t : List ℕ) (none : None ≡ split_at k t) where
  module _ (e : get_or t 0 0 ≡ 1) where
    pub one_needed : needed k t ≡ 1
    one_needed = needed_leaf k t (leaf_from k t none) ∙ cond-true _ _ _ (eq-eqb _ 1 e)

    pub one_placed : (c : Cube) (l : List Cube) → needed k t ≤ length l → set l 0 c ≡ chosen_products k t c ++ drop (needed k t) l
    one_placed c l room =
        go l (let n = one_needed in omega arith)
        ∙ (λ i. sym (products_leaf k t c (leaf_from k t none) ∙ cond-true _ _ _ (eq-eqb _ 1 e)) i ++ drop (sym one_needed i) l)
      where
        go : (l : List Cube) → 1 ≤ length l → set l 0 c ≡ (c ∷ []) ++ drop 1 l
        go [] h = absurd (omega arith)
        go (x ∷ xs) h = refl

  module _ (ne : get_or t 0 0 ≡ 1 → ⊥) where
    pub none_needed : needed k t ≡ 0
    none_needed = needed_leaf k t (leaf_from k t none) ∙ cond-false _ _ _ (ne_eqb _ 1 ne)

    pub none_placed : (c : Cube) (l : List Cube) → l ≡ chosen_products k t c ++ drop (needed k t) l
    none_placed c l = λ i. sym (products_leaf k t c (leaf_from k t none) ∙ cond-false _ _ _ (ne_eqb _ 1 ne)) i ++ drop (sym none_needed i) l
