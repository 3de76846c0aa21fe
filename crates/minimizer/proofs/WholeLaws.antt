-- The sheet of a text that is shrunk.
-- Assumes nothing.
use Rattle.std.proofs.Common.{◌≡◌, ℕ, ◌+◌, ◌≤◌, min, true, false, leb, List, length, take, Ok, Err, Result, sym, refl, ap, ◌∙◌, subst, ⊎_elim, arith}
use Rattle.std.proofs.lemmas.Bool.{cond-true, cond-false, cases_Bool, leb-true}
use Rattle.cube.specs.declared.cube.Cube.{Cube}
use Rattle.reader.specs.Back.{Spells}
use Rattle.reader.specs.Reading.{Sheet, read, stored}
use Rattle.sheet.specs.declared.heading.Heading.{Heading}
use Rattle.minimizer.specs.declared.refusal.LoadRefusal.{LoadRefusal}
use Rattle.minimizer.specs.declared.shrink.Shrunk.{Shrunk}
use Rattle.minimizer.specs.Loading.{loadable, heading_or}
use Rattle.minimizer.specs.Minimizing.{workable, shrinkable, Minimizes}
use Rattle.minimizer.specs.Shrinking.{Shrinks}
use Rattle.minimizer.proofs.LoadLaws.{Admitted, admitted_is, Stored, rows_stored}

-- a text that is shrunk is one that is loaded, and there is work memory for its rows
pub record Considered (work : ℕ) (x : Result Sheet LoadRefusal) (h : Heading) : Type 0 where
  pub sheet : Sheet
  pub is : x ≡ Ok sheet
  pub works : workable work x ≡ Ok sheet
  pub heading : h ≡ sheet.heading
  pub enough : h.rows + 2 ≤ work

considered_is : (work : ℕ) (x : Result Sheet LoadRefusal) (h : Heading) → Ok h ≡ heading_or (workable work x) → Considered work x h
considered_is work (Err e) h q = absurd (let z : ◌≡◌ {A = ℕ} 0 1 = cc in omega arith)
considered_is work (Ok s) h q =
    ⊎_elim
    (λ (t : leb (s.heading.rows + 2) work ≡ true).
    let same : workable work (Ok s) ≡ Ok s = cond-true _ _ _ t in
    let g : Ok h ≡ Ok s.heading = q ∙ ap heading_or same in
    let e : h ≡ s.heading = cc in
    let l = leb-true (s.heading.rows + 2) work t in
    record { sheet = s; is = refl; works = same; heading = e; enough = let k = ap (λ x. x.rows) e in omega arith })
    (λ (f : leb (s.heading.rows + 2) work ≡ false).
    let g = q ∙ ap heading_or (cond-false _ _ _ f) in absurd (let z : ◌≡◌ {A = ℕ} 0 1 = cc in omega arith))
    (cases_Bool (leb (s.heading.rows + 2) work))

module _ (room n work : ℕ) (text : List ℕ) (l k : List Cube) (h : Heading) where
  abbrev Right : Type 0
  Right = Ok h ≡ heading_or (workable work (loadable room (read n text)))

  considered : Right → Considered work (loadable room (read n text)) h
  considered q = considered_is work (loadable room (read n text)) h q

  admitted : Right → Admitted room (read n text) h
  admitted q =
      let c = considered q in
      admitted_is room (read n text) h (ap Ok c.heading ∙ sym (ap heading_or c.is))

  stored_rows : (q : Right) → Spells n text → k ≡ stored l (read n text) → Stored n l k h (admitted q).sheet
  stored_rows q sp e = rows_stored room n text l k h (admitted q) sp e

  pub minimizes_by : (places after : List Cube) (r : Shrunk) → room ≡ min 960 (length places) → (q : Right) → Spells n text → k ≡ stored l (read n text)
      → Shrinks places (take h.rows k) work r after
      → Minimizes (shrinkable (length places) work (read n text)) places l work (Ok (record { heading = h; count = r.count; reduced = r.reduced; refined = r.refined })) after k
  minimizes_by places after r m q sp e z =
      let a = admitted q in
      let s = a.sheet in
      let rows = (stored_rows q sp e).rows in
      let y : Shrinks places s.products work r after = subst (λ ps. Shrinks places ps work r after) rows z in
      let c = considered q in
      let same : c.sheet ≡ s = let p = sym c.is ∙ a.loads in let u : c.sheet ≡ s = cc in u in
      let works : shrinkable (length places) work (read n text) ≡ Ok s =
      ap (λ j. workable work (loadable j (read n text))) (sym m) ∙ c.works ∙ ap Ok same in
      subst (λ x. Minimizes x places l work (Ok (record { heading = h; count = r.count; reduced = r.reduced; refined = r.refined })) after k) (sym works)
      (record {
        answer = λ i. Ok (record { heading = a.heading i; count = y.count i; reduced = y.reduced i; refined = y.refined i });
        places = y.places;
        first = (y.products, y.within);
        list = e ∙ ap (stored l) a.is;
        promise = (y.promise, y.logged);
      })
