-- Texts that a pen writes one after another.
-- Assumes nothing.
use Rattle.std.proofs.Common.{◌≡◌, ℕ, ◌+◌, ◌<◌, ◌≤◌, List, [], ◌∷◌, ◌++◌, length, sym, refl, ap, ◌∙◌, subst, arith}
use lib.Seq.{paste-zero}
use Rattle.sheet.specs.declared.pen.Pen.{Pen}
use Rattle.sheet.specs.Pens.{Wrote, WroteChars}
use Rattle.sheet.specs.Text.{chars}
use Rattle.sheet.proofs.PutLaws.{put_put, chars_zero, chars_more}

-- the same text, written otherwise
pub wrote_same : {p q : Pen} (s t : List ℕ) → s ≡ t → Wrote p s q → Wrote p t q
wrote_same {p} {q} s t e h = subst (λ x. Wrote p x q) e h

pub wrote_nothing : (p : Pen) → Wrote p [] p
wrote_nothing p =
    record { same = refl; put = record { memory = paste-zero p.memory.now p.at []; past = omega arith }; size = refl }

-- one text, and then another
pub wrote_then : {p q r : Pen} (s t : List ℕ) → p.at ≤ length p.memory.now → Wrote p s q → Wrote q t r → Wrote p (s ++ t) r
wrote_then s t le a b =
    record { same = b.same ∙ a.same; put = put_put s t le a.put b.put; size = b.size ∙ a.size }

module _ (answers : ℕ → ℕ → Type 0) (p : Pen) where
  pub chars_none : WroteChars answers p 0 p
  chars_none = record { at = omega arith; size = refl; wrote = λ f _. wrote_same [] (chars f 0) (sym (chars_zero f)) (wrote_nothing p) }

  pub chars_next : {q r : Pen} (j x : ℕ) → p.at + j < length p.memory.now → answers j x → WroteChars answers p j q → Wrote q (x ∷ []) r
      → WroteChars answers p (j + 1) r
  chars_next j x room h a b =
      let at = a.at in
      let past = b.put.past in
      record {
        at = omega arith;
        size = b.size ∙ a.size;
        wrote = λ f told.
            wrote_same (chars f j ++ x ∷ []) (chars f (j + 1)) (ap (λ y. chars f j ++ y ∷ []) (told j x h) ∙ sym (chars_more f j))
            (wrote_then (chars f j) (x ∷ []) (omega arith) (a.wrote f told) b);
      }
