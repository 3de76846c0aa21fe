-- The cuts of a text into lines, and of a line into its parts.
-- Assumes nothing.
use Rattle.std.proofs.Common.{◌≡◌, ℕ, zero, suc, ◌+◌, ◌-◌, ◌<◌, ◌≤◌, cond, eqb, List, [], ◌∷◌, length, get_or, take, drop, codes, Some, None, Option, ltb, sym, refl, ap, ◌∙◌, subst, ap₂, ⊎_elim, arith}
use Rattle.std.proofs.lemmas.List.{ext_get_or, take_rest, length-drop}
use Rattle.std.specs.List.{position, position_or_len}
use Rattle.std.proofs.lemmas.List.Recursion.{is_position_or_len}
use Rattle.std.proofs.lemmas.Bool.{cond_both, cond-true, cond-false, ltb-true, ltb-false, cases_Bool}
use Rattle.reader.specs.Lines.{ended, broken, push, pieces, kind, up_to, dotted_of, IsCut}

-- how many characters stand before the first b, by its place
upto_place : (b : ℕ) (l : List ℕ) → up_to b l ≡ position_or_len (λ c. eqb c b) l
upto_place b l = is_position_or_len (up_to b) (λ c. eqb c b) refl (λ c cs. let e : suc (up_to b cs) ≡ 1 + up_to b cs = omega arith in ap (λ n. cond (eqb c b) 0 n) e) l

upto_le : (b : ℕ) (l : List ℕ) → up_to b l ≤ length l
upto_le b [] = omega arith
upto_le b (c ∷ cs) = let h = upto_le b cs in cond_both (eqb c b) _ _ (λ n. n ≤ suc (length cs)) (λ _. omega arith) (λ _. omega arith)

abbrev Placed : ℕ → List ℕ → Option ℕ → Type 0
Placed b l None = up_to b l ≡ length l
Placed b l (Some n) = (n < length l) × (up_to b l ≡ n)

placed_at : (b : ℕ) (l : List ℕ) → Placed b l (position (λ c. eqb c b) l)
placed_at b l =
    let e = upto_place b l in
    let le = upto_le b l in
    cond_both (ltb (position_or_len (λ c. eqb c b) l) (length l)) _ _ (Placed b l)
    (λ t. (ltb-true _ _ t, e)) (λ f. let g = ltb-false _ _ f in omega arith)

pub unplaced : (b : ℕ) (l : List ℕ) → position (λ c. eqb c b) l ≡ None → up_to b l ≡ length l
unplaced b l e = subst (Placed b l) e (placed_at b l)

placed_is : (b : ℕ) (l : List ℕ) (n : ℕ) → position (λ c. eqb c b) l ≡ Some n → (n < length l) × (up_to b l ≡ n)
placed_is b l n e = subst (Placed b l) e (placed_at b l)

pub is_cut : (b : ℕ) (l : List ℕ) (n : ℕ) → position (λ c. eqb c b) l ≡ Some n → IsCut b l (take n l) (take (length l - (n + 1)) (drop (n + 1) l))
is_cut b l n e =
    let p = placed_is b l n e in
    (omega arith, ap (λ m. take m l) (sym p.1), take_rest l (n + 1) ∙ ap (λ m. drop (m + 1) l) (sym p.1))

-- the line that tells the type
pub type_line : (l : List ℕ) → length l ≡ 9 → get_or l 0 0 ≡ 116 → get_or l 1 0 ≡ 121 → get_or l 2 0 ≡ 112 → get_or l 3 0 ≡ 101 → get_or l 4 0 ≡ 32
    → get_or l 5 0 ≡ 101 → get_or l 6 0 ≡ 115 → get_or l 7 0 ≡ 111 → get_or l 8 0 ≡ 112 → kind ≡ dotted_of l
type_line l n a b c d e f g h i = ap dotted_of (sym (ext_get_or 0 l (codes "type esop") n same))
  where
    same : (k : ℕ) → k < length l → get_or l k 0 ≡ get_or (codes "type esop") k 0
    same zero lt = a
    same (suc zero) lt = b
    same (suc (suc zero)) lt = c
    same (suc (suc (suc zero))) lt = d
    same (suc (suc (suc (suc zero)))) lt = e
    same (suc (suc (suc (suc (suc zero))))) lt = f
    same (suc (suc (suc (suc (suc (suc zero)))))) lt = g
    same (suc (suc (suc (suc (suc (suc (suc zero))))))) lt = h
    same (suc (suc (suc (suc (suc (suc (suc (suc zero)))))))) lt = i
    same (suc (suc (suc (suc (suc (suc (suc (suc (suc k))))))))) lt = absurd (omega arith)

-- the first piece of a text
pub first_ended : (xs : List ℕ) (n : ℕ) → up_to 10 xs ≡ n → n < length xs → pieces xs ≡ ended (take n xs) ∷ pieces (drop (n + 1) xs)
first_ended [] n e h = absurd (omega arith)
first_ended (c ∷ cs) zero e h =
    ⊎_elim (λ t. cond-true _ _ _ t) (λ f. let g = sym (cond-false _ _ _ f) ∙ e in absurd (omega arith)) (cases_Bool (eqb c 10))
first_ended (c ∷ cs) (suc n) e h =
    ⊎_elim (λ t. let g = sym (cond-true _ _ _ t) ∙ e in absurd (omega arith))
    (λ f.
    let g : suc (up_to 10 cs) ≡ suc n = sym (cond-false _ _ _ f) ∙ e in
    let m : suc n + 1 ≡ suc (n + 1) = omega arith in
    cond-false _ _ _ f ∙ ap (push c) (first_ended cs n (omega arith) (omega arith))
    ∙ ap (λ (k : ℕ). ended (c ∷ take n cs) ∷ pieces (drop k (c ∷ cs))) (sym m))
    (cases_Bool (eqb c 10))

pub first_broken : (xs : List ℕ) → 0 < length xs → up_to 10 xs ≡ length xs → pieces xs ≡ broken xs ∷ []
first_broken [] h e = absurd (omega arith)
first_broken (c ∷ []) h e =
    ⊎_elim (λ t. let g = sym (cond-true _ _ _ t) ∙ e in absurd (omega arith)) (λ f. cond-false _ _ _ f) (cases_Bool (eqb c 10))
first_broken (c ∷ d ∷ ds) h e =
    ⊎_elim (λ t. let g = sym (cond-true _ _ _ t) ∙ e in absurd (omega arith))
    (λ f.
    let g : suc (up_to 10 (d ∷ ds)) ≡ suc (length (d ∷ ds)) = sym (cond-false _ _ _ f) ∙ e in
    cond-false _ _ _ f ∙ ap (push c) (first_broken (d ∷ ds) (omega arith) (omega arith)))
    (cases_Bool (eqb c 10))

-- the first piece of a text, by the cut at its first line feed
pub next_ended : (xs h t : List ℕ) → IsCut 10 xs h t → (pieces xs ≡ ended h ∷ pieces t) × (length t < length xs)
next_ended xs h t k =
    let n = length-drop (up_to 10 xs + 1) xs in
    let m = ap length k.2 in
    let lt = k.0 in (
      first_ended xs (up_to 10 xs) refl k.0 ∙ ap₂ (λ a b. ended a ∷ pieces b) (sym k.1) (sym k.2),
      omega arith,
    )
