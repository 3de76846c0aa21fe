-- Loading a text.
-- Assumes nothing.
use Rattle.std.proofs.Common.{◌≡◌, ℕ, ◌≤◌, true, false, leb, List, length, take, drop, Ok, Err, Result, sym, refl, ap, ◌∙◌, subst, ⊎_elim, arith}
use Rattle.std.proofs.lemmas.List.{take_at}
use Rattle.std.proofs.lemmas.Bool.{cond-true, cond-false, cases_Bool, leb-true}
use Rattle.esop.specs.History.{admitted}
use Rattle.cube.specs.Positions.{cubes}
use Rattle.cube.specs.declared.cube.Cube.{Cube}
use Rattle.cover.specs.Holding.{used, held_of, SameLoan}
use Rattle.cover.specs.declared.memory.Cover.{Cover}
use Rattle.reader.specs.Accepted.{Accepted, Spelled}
use Rattle.reader.specs.Back.{Spells}
use Rattle.reader.specs.Reading.{Sheet, read, stored}
use Rattle.sheet.specs.declared.heading.Heading.{Heading}
use Rattle.reader.specs.declared.state.Refused.{Refused}
use Rattle.minimizer.specs.Loading.{loadable, heading_or, loaded_held, Loads}

-- a text that is admitted has a sheet, with room for its rows
pub record Admitted (room : ℕ) (v : Result Sheet Refused) (h : Heading) : Type 0 where
  pub sheet : Sheet
  pub is : v ≡ Ok sheet
  pub loads : loadable room v ≡ Ok sheet
  pub heading : h ≡ sheet.heading
  pub few : h.rows ≤ room

pub admitted_is : (room : ℕ) (v : Result Sheet Refused) (h : Heading) → Ok h ≡ heading_or (loadable room v) → Admitted room v h
admitted_is room (Err e) h q = absurd (let z : ◌≡◌ {A = ℕ} 0 1 = cc in omega arith)
admitted_is room (Ok s) h q =
    ⊎_elim
    (λ (t : leb s.heading.rows room ≡ true).
    let same : loadable room (Ok s) ≡ Ok s = cond-true _ _ _ t in
    let g : Ok h ≡ Ok s.heading = q ∙ ap heading_or same in
    let e : h ≡ s.heading = cc in
    let l = leb-true s.heading.rows room t in
    record { sheet = s; is = refl; loads = same; heading = e; few = let k = ap (λ x. x.rows) e in omega arith })
    (λ (f : leb s.heading.rows room ≡ false).
    let g = q ∙ ap heading_or (cond-false _ _ _ f) in absurd (let z : ◌≡◌ {A = ℕ} 0 1 = cc in omega arith))
    (cases_Bool (leb s.heading.rows room))

-- its rows are as many as its heading says, and stand at the start of the list
pub record Stored (n : ℕ) (l k : List Cube) (h : Heading) (s : Sheet) : Type 0 where
  pub count : length s.products ≡ h.rows
  pub room : h.rows ≤ n
  pub rows : take h.rows k ≡ s.products

pub rows_stored : (room n : ℕ) (text : List ℕ) (l k : List Cube) (h : Heading) (a : Admitted room (read n text) h) → Spells n text → k ≡ stored l (read n text)
    → Stored n l k h a.sheet
rows_stored room n text l k h a sp e =
    let s = a.sheet in
    let spelled : Spelled n text s = subst (Accepted n text) a.is sp in
    let rows = ap (λ x. x.rows) a.heading in
    let count : length s.products ≡ h.rows = spelled.count ∙ sym rows in
    let within = spelled.room in
    record {
      count = count;
      room = omega arith;
      rows = ap (take h.rows) (e ∙ ap (stored l) a.is) ∙ take_at s.products (drop (length s.products) l) h.rows count;
    }

pub loads_by : {N : ℕ} (room n : ℕ) (text : List ℕ) (c d : Cover Cube N) (l k : List Cube) (h : Heading) (m : ℕ) → Ok h ≡ heading_or (loadable room (read n text)) → Spells n text
    → k ≡ stored l (read n text) → held_of d ≡ (admitted cubes (held_of c) (take h.rows k)).held → m ≡ length (used d) → SameLoan c d
    → Loads (loadable room (read n text)) c l (Ok (record { heading = h; count = m })) d k
loads_by room n text c d l k h m q sp e held count loan =
    let a = admitted_is room (read n text) h q in
    let s = a.sheet in
    let st = rows_stored room n text l k h a sp e in
    let after : held_of d ≡ loaded_held (held_of c) (Ok s) = held ∙ ap (λ ps. (admitted cubes (held_of c) ps).held) st.rows in
    let long : m ≡ length (loaded_held (held_of c) (Ok s)).used = count ∙ ap (λ x. length x.used) after in
    subst (λ x. Loads x c l (Ok (record { heading = h; count = m })) d k) (sym a.loads)
    (record {
      answer = λ i. Ok (record { heading = a.heading i; count = long i });
      held = after;
      list = e ∙ ap (stored l) a.is;
      loan = loan;
    })
