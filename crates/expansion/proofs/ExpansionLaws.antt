-- What is true of every expansion, and of the chosen one: it means the table, and none has fewer products.
-- Assumes nothing.
use Rattle.std.proofs.Common.{◌≡◌, ℕ, zero, suc, ◌+◌, ◌*◌, ◌%◌, ◌^◌, ◌<◌, ◌≤◌, Bool, true, false, cond, ◌&&◌, eqb, List, [], ◌∷◌, ◌++◌, length, get_or, sym, refl, ap, ◌∙◌, subst, ap₂, pow-suc, arith, pow_pos}
use lib.Bits.{bit_xor, xor_lt}
use Rattle.std.proofs.lemmas.Nat.{mod-pow-add, mod_below}
use Rattle.std.proofs.lemmas.List.{get_or-take, get_or-drop, length-take-le, length-drop}
use Rattle.std.proofs.lemmas.Bool.{cond-true, cond-false, ne_eqb, lt-ltb}
use Rattle.cube.specs.Bit.{bit}
use Rattle.cube.specs.Cubes.{with_form}
use Rattle.cube.specs.Covering.{value, covers, covering}
use Rattle.cube.specs.declared.cube.Cube.{Cube}
use Rattle.cube.specs.declared.cube.Form.{Form}
use Rattle.cube.specs.BitLaws.{bit_below}
use Rattle.cube.proofs.CoveringLaws.{form_value, form_at_index, form_covers}
use Rattle.expansion.specs.Splits.{low, high, sum, first_part, second_part, first_form, second_form}
use Rattle.expansion.specs.Expansions.{Expansion, cost, products, needed}
use Rattle.expansion.specs.declared.split.Split.{Split}
use Rattle.expansion.specs.declared.split.Split.TheVariants.{Shannon, PositiveDavio, NegativeDavio}
use Rattle.expansion.proofs.TableLaws.{length_mixed, get_d_mixed}
use Rattle.expansion.proofs.SplitLaws.{taken, spent_is, cheapest_least, needed_suc}

-- ---- none has fewer products

pub fewest : (k : ℕ) (e : Expansion k) (t : List ℕ) → needed k t ≤ cost k e t
unfolding cost
fewest zero e t = omega arith
fewest (suc k) e t =
    let s = e.0 in
    let a = fewest k e.1 (first_part s k t) in
    let b = fewest k e.2 (second_part s k t) in
    let here = needed_suc k t ∙ sym (spent_is (taken (suc k) t) k t) in
    let least = cheapest_least s (needed k (low k t)) (needed k (high k t)) (needed k (sum k t)) in
    let there = spent_is s k t in
    omega arith

-- ---- it means the table

-- inputs below k are absent
abbrev pub Free : ℕ → Cube → Type 0
Free k c = (i : ℕ) → i < k → value c i ≡ 3

free_form : (k : ℕ) (c : Cube) (f : Form) → k < 32 → Free (suc k) c → Free k (with_form c k f)
free_form k c f lt free i h =
    form_at_index c k i f lt ∙ cond-false _ _ _ (ne_eqb i k (λ e. omega arith)) ∙ free i (omega arith)

covering_append : (x : ℕ) (ps qs : List Cube) → covering x (ps ++ qs) ≡ covering x ps + covering x qs
covering_append x [] qs = omega arith
covering_append x (p ∷ ps) qs = let e = covering_append x ps qs in omega arith

-- bytes of the parts, from those of the halves
abbrev first_byte : Split → ℕ → ℕ → ℕ
first_byte Shannon u v = u
first_byte PositiveDavio u v = u
first_byte NegativeDavio u v = v

abbrev second_byte : Split → ℕ → ℕ → ℕ
second_byte Shannon u v = v
second_byte PositiveDavio u v = bit_xor v u
second_byte NegativeDavio u v = bit_xor v u

-- whether an input of value b agrees with a form
abbrev agrees : Form → ℕ → Bool
agrees f b = eqb (bit (form_value f) b) 1

xor_bits : (u v : ℕ) → u < 2 → v < 2 → bit_xor v u ≡ (u + v) % 2
xor_bits zero zero p q = refl
xor_bits zero (suc zero) p q = refl
xor_bits (suc zero) zero p q = refl
xor_bits (suc zero) (suc zero) p q = refl
xor_bits zero (suc (suc v)) p q = absurd (omega arith)
xor_bits (suc zero) (suc (suc v)) p q = absurd (omega arith)
xor_bits (suc (suc u)) v p q = absurd (omega arith)

-- f = x̄ f0 ⊕ x f1 = f0 ⊕ x f2 = f1 ⊕ x̄ f2, at an input of value b, within what the cube covers or outside it
three_forms : (s : Split) (in-cube : Bool) (b u v m n : ℕ) → b < 2 → u < 2 → v < 2
    → m % 2 ≡ cond (in-cube && agrees (first_form s) b) (first_byte s u v) 0
    → n % 2 ≡ cond (in-cube && agrees (second_form s) b) (second_byte s u v) 0
    → (m + n) % 2 ≡ cond in-cube (cond (eqb b 0) u v) 0
three_forms s false b u v m n hb hu hv p q = omega arith
three_forms Shannon true zero u v m n hb hu hv p q = omega arith
three_forms Shannon true (suc zero) u v m n hb hu hv p q = omega arith
three_forms PositiveDavio true zero u v m n hb hu hv p q = omega arith
three_forms PositiveDavio true (suc zero) u v m n hb hu hv p q = let x = xor_bits u v hu hv in omega arith
three_forms NegativeDavio true zero u v m n hb hu hv p q = let x = xor_bits u v hu hv in omega arith
three_forms NegativeDavio true (suc zero) u v m n hb hu hv p q = omega arith
three_forms s true (suc (suc b)) u v m n hb hu hv p q = absurd (omega arith)

abbrev Bytes : List ℕ → Type 0
Bytes t = (i : ℕ) → i < length t → get_or t i 0 < 2

module _ (k : ℕ) (t : List ℕ) (len : length t ≡ 2 ^ suc k) where
  two : 2 ^ k + 2 ^ k ≡ length t
  two = let p = pow-suc 2 k in omega arith

  low_bytes : length (low k t) ≡ 2 ^ k
  low_bytes = let e = two in length-take-le (2 ^ k) t (omega arith)

  high_bytes : length (high k t) ≡ 2 ^ k
  high_bytes = let e = two in length-drop (2 ^ k) t ∙ omega arith

  sum_at : (j : ℕ) → j < 2 ^ k → get_or (sum k t) j 0 ≡ bit_xor (get_or t (2 ^ k + j) 0) (get_or t j 0)
  sum_at j h =
      get_d_mixed (high k t) (low k t) j (let e = high_bytes in omega arith) (high_bytes ∙ sym low_bytes)
      ∙ ap₂ bit_xor (get_or-drop (2 ^ k) t j 0) (get_or-take (2 ^ k) t j 0 h)

  sum_length : length (sum k t) ≡ 2 ^ k
  sum_length = length_mixed (high k t) (low k t) ∙ high_bytes

  first_at : (s : Split) (j : ℕ) → j < 2 ^ k → get_or (first_part s k t) j 0 ≡ first_byte s (get_or t j 0) (get_or t (2 ^ k + j) 0)
  first_at Shannon j h = get_or-take (2 ^ k) t j 0 h
  first_at PositiveDavio j h = get_or-take (2 ^ k) t j 0 h
  first_at NegativeDavio j h = get_or-drop (2 ^ k) t j 0

  second_at : (s : Split) (j : ℕ) → j < 2 ^ k → get_or (second_part s k t) j 0 ≡ second_byte s (get_or t j 0) (get_or t (2 ^ k + j) 0)
  second_at Shannon j h = get_or-drop (2 ^ k) t j 0
  second_at PositiveDavio j h = sum_at j h
  second_at NegativeDavio j h = sum_at j h

  first_long : (s : Split) → length (first_part s k t) ≡ 2 ^ k
  first_long Shannon = low_bytes
  first_long PositiveDavio = low_bytes
  first_long NegativeDavio = high_bytes

  second_long : (s : Split) → length (second_part s k t) ≡ 2 ^ k
  second_long Shannon = high_bytes
  second_long PositiveDavio = sum_length
  second_long NegativeDavio = sum_length

  byte_within : (s : Split) (u v : ℕ) → u < 2 → v < 2 → (first_byte s u v < 2) × (second_byte s u v < 2)
  byte_within Shannon u v p q = (p, q)
  byte_within PositiveDavio u v p q = (p, xor_lt 1 v u q p)
  byte_within NegativeDavio u v p q = (q, xor_lt 1 v u q p)

  module _ (bytes : Bytes t) where
    halves_within : (j : ℕ) → j < 2 ^ k → (get_or t j 0 < 2) × (get_or t (2 ^ k + j) 0 < 2)
    halves_within j h = let e = two in (bytes j (omega arith), bytes (2 ^ k + j) (omega arith))

    first_bytes : (s : Split) → Bytes (first_part s k t)
    first_bytes s i h =
        let l : i < 2 ^ k = let e = first_long s in omega arith in
        let w = halves_within i l in
        subst (λ (n : ℕ). n < 2) (sym (first_at s i l)) (byte_within s _ _ w.0 w.1).0

    second_bytes : (s : Split) → Bytes (second_part s k t)
    second_bytes s i h =
        let l : i < 2 ^ k = let e = second_long s in omega arith in
        let w = halves_within i l in
        subst (λ (n : ℕ). n < 2) (sym (second_at s i l)) (byte_within s _ _ w.0 w.1).1

-- the byte of a pattern, by the value of its highest input
highest : (k x : ℕ) (t : List ℕ) → get_or t (x % 2 ^ suc k) 0 ≡ cond (eqb (bit x k) 0) (get_or t (x % 2 ^ k) 0) (get_or t (2 ^ k + x % 2 ^ k) 0)
highest k x t = ap (λ m. get_or t m 0) (ap (λ m. x % 2 ^ m) (omega arith) ∙ mod-pow-add x 1 k) ∙ go (bit x k) (bit_below x k)
  where
    go : (b : ℕ) → b < 2 → get_or t (b * 2 ^ k + x % 2 ^ k) 0 ≡ cond (eqb b 0) (get_or t (x % 2 ^ k) 0) (get_or t (2 ^ k + x % 2 ^ k) 0)
    go zero h = ap (λ m. get_or t m 0) (omega arith)
    go (suc zero) h = ap (λ m. get_or t m 0) (omega arith)
    go (suc (suc b)) h = absurd (omega arith)

-- the products of any expansion cover, of what c covers, the points whose byte is 1 an odd number of times
pub parity : (k : ℕ) (e : Expansion k) (t : List ℕ) (c : Cube) (x : ℕ) → k ≤ 32 → length t ≡ 2 ^ k → Bytes t → Free k c
    → covering x (products k e t c) % 2 ≡ cond (covers c x) (get_or t (x % 2 ^ k) 0) 0
unfolding products
parity zero e t c x le len bytes free =
    let zeroth : x % 1 ≡ 0 = omega arith in
    go (covers c x) refl (get_or t 0 0) (bytes 0 (omega arith)) ∙ ap (λ m. cond (covers c x) (get_or t m 0) 0) (sym zeroth)
  where
    go : (b : Bool) → covers c x ≡ b → (n : ℕ) → n < 2 → covering x (cond (eqb n 1) (c ∷ []) []) % 2 ≡ cond (covers c x) n 0
    go true h zero l = rw h
    go true h (suc zero) l = rw h
    go false h zero l = rw h
    go false h (suc zero) l = rw h
    go b h (suc (suc n)) l = absurd (omega arith)
parity (suc k) e t c x le len bytes free =
    let s = e.0 in
    let j = x % 2 ^ k in
    let jl : j < 2 ^ k = mod_below x (2 ^ k) (pow_pos k) in
    let w = halves_within k t len bytes j jl in
    let lt : k < 32 = omega arith in
    let absent = free k (omega arith) in
    let first =
    parity k e.1 (first_part s k t) (with_form c k (first_form s)) x (omega arith) (first_long k t len s) (first_bytes k t len bytes s) (free_form k c (first_form s) lt free)
    ∙ ap₂ (λ b n. cond b n 0) (form_covers c k x (first_form s) lt absent ∙ ap (λ b. covers c x && b) (cond-true _ _ _ (lt-ltb k 32 lt))) (first_at k t len s j jl) in
    let second =
    parity k e.2 (second_part s k t) (with_form c k (second_form s)) x (omega arith) (second_long k t len s) (second_bytes k t len bytes s) (free_form k c (second_form s) lt free)
    ∙ ap₂ (λ b n. cond b n 0) (form_covers c k x (second_form s) lt absent ∙ ap (λ b. covers c x && b) (cond-true _ _ _ (lt-ltb k 32 lt))) (second_at k t len s j jl) in
    ap (λ n. n % 2) (covering_append x (products k e.1 (first_part s k t) (with_form c k (first_form s))) _)
    ∙ three_forms s (covers c x) (bit x k) (get_or t j 0) (get_or t (2 ^ k + j) 0) _ _ (bit_below x k) w.0 w.1 first second
    ∙ ap (λ n. cond (covers c x) n 0) (sym (highest k x t))
