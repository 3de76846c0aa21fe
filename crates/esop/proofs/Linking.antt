-- What a link keeps: its products cover a point as often, modulo 2, as the two that they replace.
use Rattle.std.proofs.Common.{◌≡◌, ℕ, zero, suc, ◌+◌, ◌-◌, ◌/◌, ◌%◌, ◌<◌, ◌≤◌, Bool, true, false, cond, eqb, List, [], ◌∷◌, length, get_or, take, Some, sym, refl, ap, ◌∙◌, arith, length-take}
use Rattle.std.specs.List.{slice_get, remove}
use Rattle.std.proofs.lemmas.List.Edits.{length-remove, get_or-remove_below}
use Rattle.std.proofs.lemmas.List.{get_or_default}
use Rattle.std.proofs.lemmas.Bool.Decides.{nat_tests}
use Rattle.esop.specs.Kind.{Meaning, Laws, differs, differing, distance, nth_difference}
use Rattle.esop.specs.Entering.{bit, covering, entered_all}
use Rattle.esop.specs.Linking.{factorial, arranged, occurs, order, path, link, Group, IsGroup, without, result}
use Rattle.esop.specs.Claims.{Relinks}
use Rattle.esop.proofs.Positions.{bit_false, occurs_differing, differing_ascending, join_parity, same_parity, differs_taken, take_differs, differing_taken}
use Rattle.esop.proofs.Apart.{apart_removed}
use Rattle.esop.proofs.Entering.{covering_removed, all_parity, all_apart, all_count}
use Rattle.esop.proofs.Arranging.{occurs_arranged, length_arranged, order_first, order_rest}

pub nth_is : {P : Type 0} (c : List P) (i : ℕ) (a : P) → slice_get c i ≡ Some a → (i < length c) × (get_or c i a ≡ a)
nth_is [] i a e = absurd (let z : ◌≡◌ {A = ℕ} 0 1 = cc in omega arith)
nth_is (x ∷ c) zero a e = (omega arith, cc)
nth_is (x ∷ c) (suc i) a e = let (l, h) = nth_is c i a e in (omega arith, h)

fewer_left : (e t : Bool) (n : ℕ) → bit e + n ≡ bit t → n ≡ bit (cond e false t)
fewer_left true true n h = omega arith
fewer_left true false n h = absurd (omega arith)
fewer_left false t n h = omega arith

module _ {P : Type 0} (m : Meaning P) (laws : Laws m) where
  first_differs : (t b : P) (d : ℕ) (ds : List ℕ) → ((j : ℕ) → occurs j (d ∷ ds) ≡ bit (differs m t b j)) → differs m t b d ≡ true
  first_differs t b d ds h = let z = h d in grind (arith, nat_tests)

  -- the way from t to b by the positions at which they differ
  path_parity : (t b : P) (ds : List ℕ) → ((j : ℕ) → occurs j ds ≡ bit (differs m t b j)) → (x : ℕ) → covering m x (path m t b ds) % 2 ≡ (bit (m.covers t x) + bit (m.covers b x)) % 2
  unfolding path
  path_parity t b [] h x =
      let e = same_parity m laws t b (λ j. bit_false _ (h j)) x in
      omega arith
  path_parity t b (d ∷ ds) h x =
      let here = first_differs t b d ds h in
      let t' = m.taken t d b in
      let one = join_parity m laws t t' d (take_differs m laws t b d here) x in
      let left : (j : ℕ) → occurs j ds ≡ bit (differs m t' b j) = λ j. fewer_left (eqb d j) (differs m t b j) (occurs j ds) (h j) ∙ ap bit (sym (differs_taken m laws t b d j)) in
      let rest = path_parity t' b ds left x in
      omega arith

  pub link_parity : (a b : P) (o : ℕ) → o < factorial (distance m a b) → (x : ℕ) → covering m x (link m a b o) % 2 ≡ (bit (m.covers a x) + bit (m.covers b x)) % 2
  link_parity a b o l =
      path_parity a b (order m a b o) (λ j. occurs_arranged j (distance m a b) o (differing m a b) refl l ∙ occurs_differing m a b j)

  pub length_path : (t b : P) (ds : List ℕ) → length (path m t b ds) ≡ length ds
  unfolding path
  length_path t b [] = refl
  length_path t b (d ∷ ds) = ap suc (length_path (m.taken t d b) b ds)

  pub length_link : (a b : P) (o : ℕ) → length (link m a b o) ≡ distance m a b
  length_link a b o = length_path a b (order m a b o) ∙ length_arranged (distance m a b) o (differing m a b)

  -- One product of a link, and the link of the rest: t becomes the product one position nearer to b.
  pub record OneNearer (t b next x : P) (o k f : ℕ) : Type 0 where
    pub closer : k - 1 ≡ distance m next b
    pub numbered : o % f < factorial (k - 1)
    pub splits : link m t b o ≡ x ∷ link m next b (o % f)

  pub link_none : (t b : P) (o : ℕ) → distance m t b ≡ 0 → link m t b o ≡ []
  unfolding arranged path
  link_none t b o e = ap (λ k. path m t b (arranged k o (differing m t b))) e

  module _ (t b : P) (o n : ℕ) (more : distance m t b ≡ suc n) (l : o < factorial (suc n)) where
    -- the position that is taken first
    abbrev taken_first : ℕ
    taken_first = get_or (differing m t b) (o / factorial n) 0

    fewer : differing m (m.taken t taken_first b) b ≡ remove (differing m t b) (o / factorial n)
    fewer = differing_taken m laws t b (o / factorial n) (rw more (order_first n o l))

    nearer : distance m (m.taken t taken_first b) b ≡ n
    nearer = omega (arith, ap length fewer, length-remove (differing m t b) (o / factorial n) (rw more (order_first n o l)))

    link_splits : link m t b o ≡ m.joined t taken_first (m.taken t taken_first b) ∷ link m (m.taken t taken_first b) b (o % factorial n)
    unfolding arranged path
    link_splits =
        ap (λ k. path m t b (arranged k o (differing m t b))) more
        ∙ ap (λ ds. m.joined t taken_first (m.taken t taken_first b) ∷ path m (m.taken t taken_first b) b (arranged n (o % factorial n) ds)) (sym fewer)
        ∙ ap (λ k. m.joined t taken_first (m.taken t taken_first b) ∷ path m (m.taken t taken_first b) b (arranged k (o % factorial n) (differing m (m.taken t taken_first b) b))) (sym nearer)

  -- the same as code computes it, with k the distance and f the factorial of one less
  pub link_step : (t b next x : P) (o k f d : ℕ) → 0 < k → k ≡ distance m t b → o < factorial k → f ≡ factorial (k - 1) → nth_difference m t b (o / f) ≡ Some d → next ≡ m.taken t d b → x ≡ m.joined t d next → OneNearer t b next x o k f
  link_step t b next x o zero f d some is-k l is_f is-d is-next is_x = absurd (omega arith)
  link_step t b next x o (suc n) f d some is-k l is_f is-d is-next is_x =
      let less : suc n - 1 ≡ n = omega arith in
      let first = get_or (differing m t b) (o / factorial n) 0 in
      let e_f : f ≡ factorial n = is_f ∙ ap factorial less in
      let e_d : d ≡ first = sym (nth_is (differing m t b) (o / f) d is-d).1 ∙ get_or_default (differing m t b) (o / f) d 0 (nth_is (differing m t b) (o / f) d is-d).0 ∙ ap (λ k. get_or (differing m t b) (o / k) 0) e_f in
      let e_next : next ≡ m.taken t first b = is-next ∙ ap (λ p. m.taken t p b) e_d in
      let e_x : x ≡ m.joined t first (m.taken t first b) = is_x ∙ ap (m.joined t d) e_next ∙ ap (λ p. m.joined t p (m.taken t first b)) e_d in
      record {
        closer = less ∙ sym (nearer t b o n (sym is-k) l) ∙ ap (λ y. distance m y b) (sym e_next);
        numbered = rw (e_f, less) (order_rest n o);
        splits = link_splits t b o n (sym is-k) l ∙ ap (λ y. y ∷ link m (m.taken t first b) b (o % factorial n)) (sym e_x) ∙ ap (λ y. x ∷ link m y b (o % factorial n)) (sym e_next) ∙ ap (λ k. x ∷ link m next b (o % k)) (sym e_f);
      }

  -- A group's two products, taken out of the cover.
  module _ (c : List P) (g : Group P) (h : IsGroup m c g) where
    second_in : g.second < length c
    second_in = (nth_is c g.second g.b h.at_second).0

    first_in : g.first < length (remove c g.second)
    first_in = omega (arith, h.ascending, second_in, length-remove c g.second second_in)

    pub length_without : length (without c g) + 2 ≡ length c
    length_without = omega (arith, length-remove c g.second second_in, length-remove (remove c g.second) g.first first_in)

    covering_without : (x : ℕ) → covering m x c ≡ bit (m.covers g.b x) + (bit (m.covers g.a x) + covering m x (without c g))
    covering_without x =
        let b-is = (nth_is c g.second g.b h.at_second).1 in
        let a-is = get_or-remove_below c g.second g.a g.first h.ascending second_in ∙ (nth_is c g.first g.a h.at_first).1 in
        omega (arith, ap (λ z. bit (m.covers z x)) a-is, ap (λ z. bit (m.covers z x)) b-is, covering_removed m x c g.second g.b second_in, covering_removed m x (remove c g.second) g.first g.a first_in)

    -- a product of the link at every moment finds a place among two more than the cover has
    pub entering_room : (j : ℕ) → length (entered_all m (take j (link m g.a g.b g.number)) (without c g)) ≤ length c + 2
    entering_room j =
        omega (arith, all_count m laws (take j (link m g.a g.b g.number)) (without c g), length-take j (link m g.a g.b g.number), length_link g.a g.b g.number, length_without, h.four)

    pub relinks : Relinks m c g
    unfolding result
    relinks =
        record {
          parity = λ x. omega (arith, all_parity m laws (link m g.a g.b g.number) (without c g) x, link_parity g.a g.b g.number h.numbered x, covering_without x);
          apart = λ k. all_apart m laws (link m g.a g.b g.number) (without c g) (apart_removed m (remove c g.second) g.first (apart_removed m c g.second k));
          ascending = differing_ascending m g.a g.b;
          room = entering_room;
        }
