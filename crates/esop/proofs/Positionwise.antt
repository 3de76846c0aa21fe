-- A kind whose products cover by position is lawful.
use Rattle.std.proofs.Common.{◌≡◌, ℕ, zero, suc, ◌<◌, Bool, true, false, not, ◌&&◌, eqb, ltb, sym, refl, ap, ◌∙◌, ap₂, inl, inr, arith}
use Rattle.std.proofs.lemmas.Bool.Decides.{nat_tests}
use Rattle.std.proofs.lemmas.Bool.{cases_eq, lt-ltb, eq-eqb, ne_eqb, and_parts, ltb-true}
use Rattle.esop.specs.Kind.{Meaning, Laws, differs, either}
use Rattle.esop.specs.Positionwise.{everywhere, Positionwise}
use Rattle.esop.proofs.Everywhere.{everywhere_same}

pub and_either : (r s t : Bool) → (r && either s t) ≡ either (r && s) (r && t)
and_either true s t = refl
and_either false s t = refl

either_and : (r s t : Bool) → (either r s && t) ≡ either (r && t) (s && t)
either_and true true true = refl
either_and true true false = refl
either_and true false true = refl
either_and true false false = refl
either_and false true t = refl
either_and false false t = refl

-- three tests that agree below n but at i, where the third passes exactly when one of the others does and the other does not: so it is everywhere
everywhere_either : (f g h : ℕ → Bool) (i n : ℕ) → i < n → h i ≡ either (f i) (g i) → ((j : ℕ) → j < n → (i ≡ j → ⊥) → (f j ≡ g j) × (h j ≡ f j)) → everywhere h n ≡ either (everywhere f n) (everywhere g n)
unfolding everywhere
everywhere_either f g h i zero l here agree = absurd (omega arith)
everywhere_either f g h i (suc n) l here agree =
    elim (cases_eq i n) [
      | inl last ↦
          (let hf = everywhere_same h f n (λ j k. (agree j (omega arith) (omega arith)).1) in
          let gf = everywhere_same g f n (λ j k. sym (agree j (omega arith) (omega arith)).0) in
          let at : h n ≡ either (f n) (g n) = rw last at here in
          rw (hf, gf, at) (and_either (everywhere f n) (f n) (g n)))
      | inr earlier ↦
          (let front = everywhere_either f g h i n (omega arith) here (λ j k d. agree j (omega arith) d) in
          let (fg, hf) = agree n (omega arith) earlier in
          rw (front, hf, ← fg) (either_and (everywhere f n) (everywhere g n) (f n)))
    ]

equal_values : (inside : Bool) (u v : ℕ) → inside ≡ true → (inside && not (eqb u v)) ≡ false → u ≡ v
equal_values inside u v h d = grind (arith, nat_tests)

module _ {P : Type 0} {m : Meaning P} {meets : ℕ → ℕ → ℕ → Bool} (k : Positionwise m meets) where
  -- position i of a lets x through
  abbrev passes : P → ℕ → ℕ → Bool
  passes a x i = meets i (m.value a i) x

  -- a position at which a and b do not differ treats a point alike in both
  passes_same : (a b : P) (x j : ℕ) → j < m.width → differs m a b j ≡ false → passes a x j ≡ passes b x j
  passes_same a b x j l d = ap (λ v. meets j v x) (equal_values (ltb j m.width) (m.value a j) (m.value b j) (lt-ltb j m.width l) d)

  same : (a b : P) → ((i : ℕ) → differs m a b i ≡ false) → (x : ℕ) → m.covers a x ≡ m.covers b x
  same a b d x =
      k.covers_is a x ∙ everywhere_same (passes a x) (passes b x) m.width (λ j l. passes_same a b x j l (d j)) ∙ sym (k.covers_is b x)

  join_covers : (a b : P) (i : ℕ) → ((j : ℕ) → differs m a b j ≡ eqb i j) → (x : ℕ) → m.covers (m.joined a i b) x ≡ either (m.covers a x) (m.covers b x)
  join_covers a b i only x =
      let d : differs m a b i ≡ true = only i ∙ eq-eqb i i refl in
      let l : i < m.width = ltb-true i m.width (and_parts _ _ d).0 in
      let c = m.joined a i b in
      let value = k.positions.join_value a b i in
      let here : passes c x i ≡ either (passes a x i) (passes b x i) = ap (λ v. meets i v x) (value i d l ∙ rw (eq-eqb i i refl)) ∙ k.mixed_meets a b i x d in
      k.covers_is c x
      ∙ everywhere_either (passes a x) (passes b x) (passes c x) i m.width l here
      (λ j n u. (passes_same a b x j n (only j ∙ ne_eqb i j u), ap (λ v. meets j v x) (value j d n ∙ rw (ne_eqb i j u))))
      ∙ sym (ap₂ either (k.covers_is a x) (k.covers_is b x))

  pub positionwise_lawful : Laws m
  positionwise_lawful = record { positions = k.positions; weight_bound = k.weight_bound; same = same; join_covers = join_covers }
