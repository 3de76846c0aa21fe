-- Entering a product keeps the parity of covering and the distances, and takes one place at most.
use Rattle.std.proofs.Common.{◌≡◌, ℕ, zero, suc, ◌+◌, ◌-◌, ◌*◌, ◌%◌, ◌<◌, ◌≤◌, List, [], ◌∷◌, ◌++◌, length, get_or, drop, Some, None, Option, refl, ap, arith, length-append, length-drop}
use Rattle.std.specs.List.{remove}
use Rattle.std.proofs.lemmas.List.Edits.{length-remove}
use Rattle.esop.specs.Kind.{Meaning, Laws, differing}
use Rattle.esop.specs.Entering.{bit, covering, total_weight, Apart, seek, met, arrived, entered, entered_all, freed, spared_met, spared_arrived, spared, spared_all}
use Rattle.esop.specs.Claims.{Enters}
use Rattle.esop.proofs.Positions.{differ_nowhere, differ_once, join_parity, same_parity}
use Rattle.esop.proofs.Apart.{Far, AllApart, all_apart_removed, all_apart_push, apart_from, apart_to}
use Rattle.esop.proofs.Seeking.{Near, Seen, seen}
use Rattle.esop.proofs.Steps.{entered_is, spared_is}

module _ {P : Type 0} (m : Meaning P) where
  pub covering_append : (x : ℕ) (s t : List P) → covering m x (s ++ t) ≡ covering m x s + covering m x t
  covering_append x [] t = omega arith
  covering_append x (p ∷ s) t = let h = covering_append x s t in omega arith

  pub covering_removed : (x : ℕ) (c : List P) (i : ℕ) (d : P) → i < length c → covering m x c ≡ bit (m.covers (get_or c i d) x) + covering m x (remove c i)
  covering_removed x [] i d l = absurd (omega arith)
  covering_removed x (y ∷ c) zero d l = refl
  covering_removed x (y ∷ c) (suc i) d l = let h = covering_removed x c i d (omega arith) in omega arith

  -- the memory behind a removal
  freed_size : (c free : List P) (i : ℕ) → i < length c → length (freed c free) ≡ length free + 1
  freed_size c free i l = omega (arith, length-append (drop (length c - 1) c) free, length-drop (length c - 1) c)

module _ {P : Type 0} (m : Meaning P) (laws : Laws m) where
  -- p entered into c gives r, and leaves the free places s where they were free
  record Keeps (p : P) (c r : List P) (spare : List P → List P) : Type 0 where
    parity : (x : ℕ) → covering m x r % 2 ≡ (bit (m.covers p x) + covering m x c) % 2
    apart : AllApart m c → AllApart m r
    count : length r ≤ length c + 1
    size : (free : List P) → 1 ≤ length free → length r + length (spare free) ≡ length c + length free

  at_end : (p : P) (c : List P) → Far m p c → Keeps p c (c ++ p ∷ []) (λ free. drop 1 free)
  at_end p c f =
      record {
        parity = λ x. omega (arith, covering_append m x c (p ∷ []));
        apart = λ h. all_apart_push m p c f h;
        count = omega (arith, length-append c (p ∷ []));
        size = λ free l. omega (arith, length-append c (p ∷ []), length-drop 1 free);
      }

  -- what holds of entering into shorter covers
  abbrev Shorter : ℕ → Type 0
  Shorter n = (p : P) (c : List P) → length c < n → Keeps p c (entered m p c) (spared m p c)

  meets : (n : ℕ) → Shorter n → (p : P) (c : List P) (i : ℕ) → length c ≤ n → Near m p c i → (ds : List ℕ) → differing m p (get_or c i p) ≡ ds → Keeps p c (met m (entered m) p c i (get_or c i p) ds) (λ free. spared_met m (spared m) p c free i (get_or c i p) ds)
  meets n shorter p c i l s [] e =
      record {
        parity = λ x. omega (arith, covering_removed m x c i p s.within, same_parity m laws p (get_or c i p) (differ_nowhere m p (get_or c i p) e) x);
        apart = all_apart_removed m c i;
        count = omega (arith, length-remove c i s.within);
        size = λ free k. omega (arith, length-remove c i s.within, freed_size m c free i s.within);
      }
  meets n shorter p c i l s (d ∷ []) e =
      let less = length-remove c i s.within in
      let r = shorter (m.joined p d (get_or c i p)) (remove c i) (omega arith) in
      record {
        parity = λ x. omega (arith, r.parity x, covering_removed m x c i p s.within, join_parity m laws p (get_or c i p) d (differ_once m p (get_or c i p) d e) x);
        apart = λ h. r.apart (all_apart_removed m c i h);
        count = omega (arith, r.count);
        size = λ free k. omega (arith, freed_size m c free i s.within, r.size (freed c free) (omega (arith, freed_size m c free i s.within)));
      }
  meets n shorter p c i l s (d ∷ d' ∷ ds) e = absurd (omega (arith, s.near, ap length e))

  arrives : (n : ℕ) → Shorter n → (p : P) (c : List P) → length c ≤ n → (o : Option ℕ) → Seen m p c o → Keeps p c (arrived m (entered m) p c o) (λ free. spared_arrived m (spared m) p c free o)
  arrives n shorter p c l None s = at_end p c s
  arrives n shorter p c l (Some i) s = meets n shorter p c i l s (differing m p (get_or c i p)) refl

  from_steps : (p : P) (c : List P) → Keeps p c (arrived m (entered m) p c (seek m p c)) (λ free. spared_arrived m (spared m) p c free (seek m p c)) → Keeps p c (entered m p c) (spared m p c)
  from_steps p c k =
      record {
        parity = λ x. rw (entered_is m p c) (k.parity x);
        apart = λ h. rw (entered_is m p c) (k.apart h);
        count = rw (entered_is m p c) k.count;
        size = λ free l. rw (entered_is m p c, spared_is m p c free) (k.size free l);
      }

  keeps_within : (n : ℕ) → Shorter n
  keeps_within zero p c l = absurd (omega arith)
  keeps_within (suc n) p c l = from_steps p c (arrives n (keeps_within n) p c (omega arith) (seek m p c) (seen m p c))

  pub enters : (p : P) (c : List P) → Enters m p c
  enters p c =
      let k = keeps_within (suc (length c)) p c (omega arith) in
      record {
        parity = k.parity;
        apart = λ h. apart_from m (entered m p c) (k.apart (apart_to m c h));
        count = k.count;
        steps = entered_is m p c;
        steps_free = spared_is m p c;
        size = k.size;
      }

  -- a list entered keeps the parity and the distances, and takes a place at most for each of its products
  pub all_parity : (ps c : List P) (x : ℕ) → covering m x (entered_all m ps c) % 2 ≡ (covering m x ps + covering m x c) % 2
  unfolding entered_all
  all_parity [] c x = omega arith
  all_parity (p ∷ ps) c x = omega (arith, all_parity ps (entered m p c) x, (enters p c).parity x)

  pub all_apart : (ps c : List P) → Apart m c → Apart m (entered_all m ps c)
  unfolding entered_all
  all_apart [] c h = h
  all_apart (p ∷ ps) c h = all_apart ps (entered m p c) ((enters p c).apart h)

  pub all_count : (ps c : List P) → length (entered_all m ps c) ≤ length c + length ps
  unfolding entered_all
  all_count [] c = omega arith
  all_count (p ∷ ps) c = omega (arith, all_count ps (entered m p c), (enters p c).count)

  -- while there is a free place for each product, the memory keeps its size
  pub all_size : (ps c free : List P) → length ps ≤ length free → length (entered_all m ps c) + length (spared_all m ps c free) ≡ length c + length free
  unfolding entered_all spared_all
  all_size [] c free l = refl
  all_size (p ∷ ps) c free l =
      let one = enters p c in
      omega (arith, one.size free (omega arith), all_size ps (entered m p c) (spared m p c free) (omega (arith, one.count, one.size free (omega arith))))

  -- what a cover weighs fits
  pub weight_bound : (c : List P) → total_weight m c ≤ 6561 * length c
  weight_bound [] = omega arith
  weight_bound (p ∷ c) = omega (arith, weight_bound c, laws.weight_bound p)
