-- Storing the products of a text, one after another.
-- Assumes nothing.
use Rattle.std.proofs.Common.{◌≡◌, ℕ, ◌+◌, ◌<◌, ◌≤◌, true, false, leb, List, [], ◌∷◌, ◌++◌, length, get_or, take, drop, set, Some, Ok, Err, Result, sym, refl, ap, ◌∙◌, ap₂, ⊎_elim, arith}
use Rattle.std.proofs.lemmas.List.{drop_more, take_more, take_all, set_at, length-take-le, length-drop, append_assoc}
use Rattle.std.proofs.lemmas.Bool.{cond-true, cond-false, cases_Bool, leb-true, false≢true}
use Rattle.cube.specs.declared.cube.Cube.{Cube}
use Rattle.sheet.specs.declared.heading.Heading.{Heading}
use Rattle.reader.specs.declared.state.Refused.{Refused}
use Rattle.reader.specs.declared.state.State.TheVariants.{Inputs}
use Rattle.reader.specs.Lines.{pieces}
use Rattle.reader.specs.Reading.{Sheet, added, verdict, read, stored}
use Rattle.reader.specs.Turns.{closed, accepted}
use Rattle.reader.proofs.StepLaws.{Right, Then, judged_right}

abbrev pub products_of : Result Sheet Refused → List Cube
products_of (Ok s) = s.products
products_of (Err e) = []

-- the products are few, and the list has a place for each
few_by : (places : ℕ) (text : List ℕ) (v : Result Sheet Refused) → Then (Right places Inputs (pieces text)) v → (length (products_of v) ≤ 960) × (length (products_of v) ≤ places)
few_by places text (Ok s) r = let e = r.count in let f = r.fitting.1 in let g = r.fitting.2 in (omega arith, omega arith)
few_by places text (Err e) r = (omega arith, omega arith)

pub few : (places : ℕ) (text : List ℕ) → (length (products_of (verdict places text)) ≤ 960) × (length (products_of (verdict places text)) ≤ places)
few places text = few_by places text (verdict places text) (judged_right places Inputs 1 (pieces text) tt)

-- a text that is accepted is short enough to be judged
pub read_judged : (places : ℕ) (text : List ℕ) → accepted (read places text) ≡ true
    → (length text ≤ 64000) × (accepted (verdict places text) ≡ true) × (read places text ≡ verdict places text)
read_judged places text e =
    ⊎_elim
    (λ (t : leb (length text) 64000 ≡ true).
    let same : read places text ≡ verdict places text = cond-true _ _ _ t in (leb-true (length text) 64000 t, ap accepted (sym same) ∙ e, same))
    (λ (f : leb (length text) 64000 ≡ false). absurd (false≢true (ap accepted (sym (cond-false _ _ _ f)) ∙ e)))
    (cases_Bool (leb (length text) 64000))

-- of what a text comes to, v, the first k products are stored over the list `old`, and `rest` is still to be read
pub record Storing (v : Result Sheet Refused) (old new : List Cube) (k : ℕ) (rest : Result Sheet Refused) : Type 0 where
  pub right : accepted rest ≡ true
  pub left : products_of rest ≡ drop k (products_of v)
  pub inside : k ≤ length (products_of v)
  pub held : new ≡ take k (products_of v) ++ drop k old

heads : (x y : Cube) (xs ys : List Cube) → x ∷ xs ≡ y ∷ ys → (x ≡ y) × (xs ≡ ys)
heads x y xs ys e = (cc, cc)

set_more : (p old : List Cube) (k : ℕ) (c : Cube) → k < length p → k < length old → c ≡ get_or p k c → set (take k p ++ drop k old) k c ≡ take (k + 1) p ++ drop (k + 1) old
set_more p old k c lt room e =
    ap (λ d. set (take k p ++ d) k c) (drop_more old k c room)
    ∙ set_at (take k p) (get_or old k c) (drop (k + 1) old) c k (length-take-le k p (omega arith))
    ∙ sym (append_assoc (take k p) (c ∷ []) (drop (k + 1) old))
    ∙ ap (λ x. (take k p ++ x ∷ []) ++ drop (k + 1) old) e
    ∙ ap (λ x. x ++ drop (k + 1) old) (sym (take_more p k c lt))

module _ (v : Result Sheet Refused) (old new : List Cube) (k : ℕ) (rest : Result Sheet Refused) (c : Cube) where
  pub storing_more : (next : Result Sheet Refused) → rest ≡ added (Some c) next → length (products_of v) ≤ length old → Storing v old new k rest
      → (k < length (products_of v)) × Storing v old (set new k c) (k + 1) next
  storing_more (Ok s) e room h =
      let p = products_of v in
      let here : c ∷ s.products ≡ drop k p = ap products_of (sym e) ∙ h.left in
      let long = ap length here ∙ length-drop k p in
      let lt : k < length p = omega arith in
      let parts = heads c (get_or p k c) s.products (drop (k + 1) p) (here ∙ drop_more p k c lt) in (
        lt,
        record {
          right = refl;
          left = parts.1;
          inside = omega arith;
          held = ap (λ x. set x k c) h.held ∙ set_more p old k c lt (omega arith) parts.0;
        },
      )
  storing_more (Err f) e room h = absurd (false≢true (ap accepted (sym e) ∙ h.right))

stored_is : (v : Result Sheet Refused) (old : List Cube) → accepted v ≡ true → products_of v ++ drop (length (products_of v)) old ≡ stored old v
stored_is (Ok s) old e = refl
stored_is (Err f) old e = absurd (false≢true e)

pub storing_all : (v : Result Sheet Refused) (old new : List Cube) (k : ℕ) (rest : Result Sheet Refused) (h : Heading) → accepted v ≡ true → rest ≡ closed h
    → Storing v old new k rest → new ≡ stored old v
storing_all v old new k rest a ok e h =
    let p = products_of v in
    let nil : drop k p ≡ [] = sym h.left ∙ ap products_of e in
    let long = sym (length-drop k p) ∙ ap length nil in
    let in_all = h.inside in
    let same : k ≡ length p = omega arith in
    h.held ∙ ap₂ (λ x n. x ++ drop n old) (take_all k p (omega arith)) same ∙ stored_is v old ok
