-- A packed cube covers what the cube covers.
-- Assumes nothing.
use Rattle.std.proofs.Common.{◌≡◌, ℕ, zero, suc, ◌+◌, ◌-◌, ◌*◌, ◌/◌, ◌%◌, ◌^◌, ◌<◌, ◌≤◌, Bool, true, false, not, ◌&&◌, eqb, ltb, get_or, sym, refl, ap, ◌∙◌, subst, ap₂, ⊎_elim, arith}
use Rattle.std.proofs.lemmas.Nat.{shr-shr}
use Rattle.std.proofs.lemmas.Bool.{cases_eq, cases_lt, and_parts, and_from, cond-true, lt-ltb, ltb-true}
use Rattle.esop.specs.Positionwise.{everywhere}
use Rattle.esop.proofs.Everywhere.{everywhere_all, everywhere_at}
use Rattle.cube.specs.Bit.{bit}
use Rattle.cube.specs.Cubes.{form_of}
use Rattle.cube.specs.Covering.{value, meets, covers}
use Rattle.cube.specs.declared.cube.Cube.{Cube}
use Rattle.cube.specs.declared.cube.Form.{Form}
use Rattle.cube.specs.declared.cube.Form.TheVariants.{Negative, Positive, Absent}
use Rattle.cube.proofs.CodeLaws.{same_tests}
use Rattle.cube.proofs.CoveringLaws.{form_value, absent_meets, value_form}
use Rattle.block.specs.Bytes.{sound}
use Rattle.block.specs.Blocks as blocks
use Rattle.block.specs.Packing.{table_of, packed_byte, packed_bytes, is_absent, keeps_inputs}
use Rattle.block.specs.Products.{group, passes, covered}
use Rattle.block.specs.MakingLaws.{made_bytes, sound_from}

-- ---- what the truth tables of forms say, computed for all forms and all values of three inputs

abbrev all_forms : (Form → Bool) → Bool
all_forms t = t Negative && (t Positive && t Absent)

at_form : (t : Form → Bool) → all_forms t ≡ true → (f : Form) → t f ≡ true
at_form t h Negative = (and_parts (t Negative) _ h).0
at_form t h Positive = (and_parts (t Positive) (t Absent) (and_parts (t Negative) _ h).1).0
at_form t h Absent = (and_parts (t Positive) (t Absent) (and_parts (t Negative) _ h).1).1

at_forms : (t : Form → Form → Form → Bool) → all_forms (λ f. all_forms (λ g. all_forms (λ h. t f g h))) ≡ true → (f g h : Form) → t f g h ≡ true
at_forms t e f g h = at_form (λ z. t f g z) (at_form (λ y. all_forms (λ z. t f y z)) (at_form (λ x. all_forms (λ y. all_forms (λ z. t x y z))) e f) g) h

some_value : (f g h : Form) → 0 < table_of f g h
some_value f g h = ltb-true _ _ (at_forms (λ f g h. ltb 0 (table_of f g h)) refl f g h)

-- whether an input of value b agrees with a form
abbrev agrees : Form → ℕ → Bool
agrees f b = eqb (bit (form_value f) b) 1

abbrev iff : Bool → Bool → Bool
iff true b = b
iff false b = not b

iff_same : (a b : Bool) → iff a b ≡ true → a ≡ b
iff_same true true h = refl
iff_same false false h = refl
iff_same true false h = sym h
iff_same false true h = h

abbrev table_right : ℕ → Form → Form → Form → Bool
table_right v f g h = iff (eqb (bit (table_of f g h) v) 1) (agrees f (bit v 0) && (agrees g (bit v 1) && agrees h (bit v 2)))

-- the values of three inputs
by_value : (P : ℕ → Type 0) → P 0 → P 1 → P 2 → P 3 → P 4 → P 5 → P 6 → P 7 → (v : ℕ) → v < 8 → P v
by_value P a b c d e f g h zero l = a
by_value P a b c d e f g h (suc zero) l = b
by_value P a b c d e f g h (suc (suc zero)) l = c
by_value P a b c d e f g h (suc (suc (suc zero))) l = d
by_value P a b c d e f g h (suc (suc (suc (suc zero)))) l = e
by_value P a b c d e f g h (suc (suc (suc (suc (suc zero))))) l = f
by_value P a b c d e f g h (suc (suc (suc (suc (suc (suc zero)))))) l = g
by_value P a b c d e f g h (suc (suc (suc (suc (suc (suc (suc zero))))))) l = h
by_value P a b c d e f g h (suc (suc (suc (suc (suc (suc (suc (suc v)))))))) l = absurd (omega arith)

table_at : (v : ℕ) → v < 8 → (f g h : Form) → eqb (bit (table_of f g h) v) 1 ≡ (agrees f (bit v 0) && (agrees g (bit v 1) && agrees h (bit v 2)))
table_at v l f g h =
    iff_same _ _
    (at_forms (table_right v)
    (by_value (λ n. all_forms (λ f. all_forms (λ g. all_forms (λ h. table_right n f g h))) ≡ true) refl refl refl refl refl refl refl refl v l) f g h)

-- ---- the three inputs of a group

-- bit j of three bits from place a on
bit_of : (n a j : ℕ) → j < 3 → bit (n / 2 ^ a % 8) j ≡ bit n (a + j)
bit_of n a j l = go j l ∙ ap (λ m. m % 2) (shr-shr n a j)
  where
    go : (j : ℕ) → j < 3 → bit (n / 2 ^ a % 8) j ≡ n / 2 ^ a / 2 ^ j % 2
    go zero l = omega arith
    go (suc zero) l = omega arith
    go (suc (suc zero)) l = omega arith
    go (suc (suc (suc j))) l = absurd (omega arith)

-- what the cube says of input i at the point x
abbrev lets : Cube → ℕ → ℕ → Bool
lets c x i = meets i (value c i) x

lets_is : (c : Cube) (x i : ℕ) → i < 32 → lets c x i ≡ agrees (form_of c i) (bit x i)
lets_is c x i l = cond-true _ _ _ (lt-ltb i 32 l) ∙ ap (λ v. eqb (bit v (bit x i)) 1) (value_form c i l)

passes_is : (c : Cube) (x g : ℕ) → g < 8 → passes g (packed_byte c g) x ≡ (lets c x (3 * g) && (lets c x (3 * g + 1) && lets c x (3 * g + 2)))
unfolding packed_byte
passes_is c x g l =
    let v = group x g in
    let vl : v < 8 = omega arith in
    let z : 3 * g + 0 ≡ 3 * g = omega arith in
    table_at v vl (form_of c (3 * g)) (form_of c (3 * g + 1)) (form_of c (3 * g + 2))
    ∙ ap₂ ◌&&◌
    (ap (agrees (form_of c (3 * g))) (bit_of x (3 * g) 0 (omega arith) ∙ ap (bit x) z) ∙ sym (lets_is c x (3 * g) (omega arith)))
    (ap₂ ◌&&◌
    (ap (agrees (form_of c (3 * g + 1))) (bit_of x (3 * g) 1 (omega arith)) ∙ sym (lets_is c x (3 * g + 1) (omega arith)))
    (ap (agrees (form_of c (3 * g + 2))) (bit_of x (3 * g) 2 (omega arith)) ∙ sym (lets_is c x (3 * g + 2) (omega arith))))

-- ---- the bytes

byte_is : (c : Cube) (g : ℕ) → g < 8 → get_or (packed_bytes c) g 0 ≡ packed_byte c g
byte_is c g l = by_value (λ g. get_or (packed_bytes c) g 0 ≡ packed_byte c g) refl refl refl refl refl refl refl refl g l

byte_some : (c : Cube) (g : ℕ) → 0 < packed_byte c g
unfolding packed_byte
byte_some c g = some_value (form_of c (3 * g)) (form_of c (3 * g + 1)) (form_of c (3 * g + 2))

pub bytes_sound : (c : Cube) → sound (packed_bytes c) ≡ true
bytes_sound c = sound_from (packed_bytes c) refl (λ k l. subst (λ (n : ℕ). 0 < n) (sym (byte_is c k l)) (byte_some c k))

packed_value : (c : Cube) (g : ℕ) → g < 8 → blocks.value (blocks.made (packed_bytes c)) g ≡ packed_byte c g
packed_value c g l = ap (λ bs. get_or bs g 0) (made_bytes (packed_bytes c) (bytes_sound c)) ∙ byte_is c g l

-- ---- the same covering

absent_form : (f : Form) → is_absent f ≡ true → f ≡ Absent
absent_form Negative h = absurd (let z : ◌≡◌ {A = ℕ} 0 1 = cc in omega arith)
absent_form Positive h = absurd (let z : ◌≡◌ {A = ℕ} 0 1 = cc in omega arith)
absent_form Absent h = refl

module _ (c : Cube) (keeps : keeps_inputs c ≡ true) (out : c.outputs ≡ 1) (x : ℕ) (below : x < 2 ^ 24) where
  upper_lets : (i : ℕ) → 24 ≤ i → i < 32 → lets c x i ≡ true
  upper_lets i ge l =
      let e : 24 + (i - 24) ≡ i = omega arith in
      let f : form_of c i ≡ Absent = ap (form_of c) (sym e) ∙ absent_form _ (everywhere_at (λ j. is_absent (form_of c (24 + j))) 8 (i - 24) (omega arith) keeps) in
      ap (λ v. meets i v x) (value_form c i l ∙ ap form_value f) ∙ absent_meets i x l

  output_lets : lets c x 32 ≡ true
  output_lets =
      let z : x / 2 ^ 32 ≡ 0 = omega arith in
      ap₂ (λ v o. ltb o 32 && eqb (bit v o) 1) out z

  group_of : (i : ℕ) → i < 24 → passes (i / 3) (packed_byte c (i / 3)) x ≡ true → lets c x i ≡ true
  group_of i l h =
      let t : (lets c x (3 * (i / 3)) && (lets c x (3 * (i / 3) + 1) && lets c x (3 * (i / 3) + 2))) ≡ true = sym (passes_is c x (i / 3) (omega arith)) ∙ h in
      let a = and_parts (lets c x (3 * (i / 3))) _ t in
      let b = and_parts (lets c x (3 * (i / 3) + 1)) (lets c x (3 * (i / 3) + 2)) a.1 in
      ⊎_elim
      (λ (e : i % 3 ≡ 0). let q : i ≡ 3 * (i / 3) = omega arith in ap (lets c x) q ∙ a.0)
      (λ ne. ⊎_elim
      (λ (e : i % 3 ≡ 1). let q : i ≡ 3 * (i / 3) + 1 = omega arith in ap (lets c x) q ∙ b.0)
      (λ ne'. let q : i ≡ 3 * (i / 3) + 2 = omega arith in ap (lets c x) q ∙ b.1)
      (cases_eq (i % 3) 1))
      (cases_eq (i % 3) 0)

  to_cube : everywhere (λ g. passes g (blocks.value (blocks.made (packed_bytes c)) g) x) 8 ≡ true → covers c x ≡ true
  to_cube h =
      everywhere_all (lets c x) 33
      (λ i l. ⊎_elim
      (λ (a : i < 24).
      let g : i / 3 < 8 = omega arith in
      group_of i a (ap (λ b. passes (i / 3) b x) (sym (packed_value c (i / 3) g)) ∙ everywhere_at (λ g. passes g (blocks.value (blocks.made (packed_bytes c)) g) x) 8 (i / 3) g h))
      (λ (b : 24 ≤ i). ⊎_elim (λ (d : i < 32). upper_lets i b d) (λ (d : 32 ≤ i). let e : i ≡ 32 = omega arith in ap (lets c x) e ∙ output_lets) (cases_lt i 32))
      (cases_lt i 24))

  to_block : covers c x ≡ true → everywhere (λ g. passes g (blocks.value (blocks.made (packed_bytes c)) g) x) 8 ≡ true
  to_block h =
      everywhere_all (λ g. passes g (blocks.value (blocks.made (packed_bytes c)) g) x) 8
      (λ g l.
      ap (λ b. passes g b x) (packed_value c g l) ∙ passes_is c x g l
      ∙ and_from _ _ (everywhere_at (lets c x) 33 (3 * g) (omega arith) h)
      (and_from _ _ (everywhere_at (lets c x) 33 (3 * g + 1) (omega arith) h) (everywhere_at (lets c x) 33 (3 * g + 2) (omega arith) h)))

  pub same_covering : covered (blocks.made (packed_bytes c)) x ≡ covers c x
  same_covering =
      ap (λ t. t && everywhere (λ g. passes g (blocks.value (blocks.made (packed_bytes c)) g) x) 8) (lt-ltb x (2 ^ 24) below)
      ∙ same_tests _ _ to_cube to_block
