-- Texts put into memory one after another, and their lengths.
-- Assumes nothing.
use Rattle.std.proofs.Common.{◌≡◌, ℕ, zero, suc, ◌+◌, ◌<◌, ◌≤◌, List, [], ◌∷◌, ◌++◌, length, set, codes, sym, refl, ap, ◌∙◌, subst, add-one, arith, length-append}
use lib.Seq.{paste, paste-zero, paste-suc}
use Rattle.std.proofs.lemmas.List.Edits.{paste-paste}
use Rattle.cube.specs.declared.cube.Cube.{Cube}
use Rattle.sheet.specs.Text.{decimal, field, line, type_text, heading_text, chars, input_chars, output_chars, row_text}
use Rattle.sheet.specs.Refusing.{refusal_text}
use Rattle.sheet.specs.Writing.{written, Put}

-- the same text, written otherwise
pub put_same : {m m' : List ℕ} {p q : ℕ} (s t : List ℕ) → s ≡ t → Put m p s m' q → Put m p t m' q
put_same {m} {m'} {p} {q} s t e h = subst (λ x. Put m p x m' q) e h

-- one text, and another from the place past it
pub put_put : {m n o : List ℕ} {p q r : ℕ} (s t : List ℕ) → p ≤ length m → Put m p s n q → Put n q t o r → Put m p (s ++ t) o r
put_put {m} {n} {o} {p} {q} {r} s t le a b =
    record {
      memory =
          b.memory ∙ ap (λ x. written x q t) a.memory ∙ ap (λ x. written (written m p s) x t) a.past
          ∙ paste-paste m p s t (length s) (length t) refl refl le ∙ ap (paste m p (s ++ t)) (sym (length-append s t));
      past = let e = length-append s t in let f = a.past in let g = b.past in omega arith;
    }

-- one character
pub put_char : (m : List ℕ) (p x : ℕ) → p < length m → Put m p (x ∷ []) (set m p x) (p + 1)
put_char m p x lt =
    let u = x ∷ [] in
    let e : p ≡ p + 0 = omega arith in
    record {
      memory = ap (λ y. set y p x) (paste-zero m p u) ∙ ap (λ k. set (paste m p u 0) k x) e ∙ paste-suc m p u 0 0 (omega arith) (omega arith);
      past = omega arith;
    }

pub chars_length : (f : ℕ → ℕ) (n : ℕ) → length (chars f n) ≡ n
unfolding chars
chars_length f zero = refl
chars_length f (suc n) = let e = chars_length f n in length-append (chars f n) (f n ∷ []) ∙ omega arith

pub chars_zero : (f : ℕ → ℕ) → chars f 0 ≡ []
unfolding chars
chars_zero f = refl

pub chars_more : (f : ℕ → ℕ) (n : ℕ) → chars f (n + 1) ≡ chars f n ++ f n ∷ []
unfolding chars
chars_more f n = ap (chars f) (add-one n)

field_length : (letter n : ℕ) → length (line (field letter n)) ≡ length (decimal n) + 4
field_length letter n = let e = length-append (decimal n) (10 ∷ []) in omega arith

pub row_length : (i o : ℕ) (c : Cube) → length (row_text i o c) ≡ i + o + 2
unfolding row_text
row_length i o c =
    let is = input_chars c i in
    let os = output_chars c o in
    let e = length-append (is ++ 32 ∷ os) (10 ∷ []) in
    let f = length-append is (32 ∷ os) in
    let h : length is ≡ i = chars_length _ i in
    let k : length os ≡ o = chars_length _ o in
    omega arith

pub heading_length : (i o n : ℕ) → length (heading_text i o n) ≡ length (decimal i) + length (decimal o) + length (decimal n) + 23
unfolding heading_text
heading_length i o n =
    let a = line (field 105 i) in
    let b = line (field 111 o) in
    let d = line (field 112 n) in
    let e = length-append (a ++ b ++ line type_text) d in
    let f = length-append (a ++ b) (line type_text) in
    let g = length-append a b in
    let h = field_length 105 i in
    let j = field_length 111 o in
    let k = field_length 112 n in
    omega arith

pub refusal_length : (n : ℕ) → length (refusal_text n) ≡ length (decimal n) + 9
unfolding refusal_text
refusal_length n =
    let e = length-append (codes "refused " ++ decimal n) (10 ∷ []) in
    let f = length-append (codes "refused ") (decimal n) in
    omega arith
