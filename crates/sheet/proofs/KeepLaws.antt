-- Products that keep to a heading, place after place and one after another.
-- Assumes nothing.
use Rattle.std.proofs.Common.{◌≡◌, ℕ, ◌+◌, ◌<◌, Bool, true, false, ◌&&◌, List, [], ◌∷◌, Option, Some, None, sym, subst, refl, ap, ◌∙◌, arith, rules}
use Rattle.std.specs.Bool.{Decides, MatchBool}
use Rattle.std.specs.Iterator.Runs.{Run, CallKeepsClosure, AllItemsGive, AnyItemGives}
use Rattle.std.specs.Fn.{Mut, Called}
use Rattle.std.proofs.iter.Yields.{nat_range_steps}
use Rattle.std.proofs.iter.runs.Sources.{ranges, range_runs}
use Rattle.std.specs.Option.{option_map, IfSome}
use Rattle.std.specs.List.{list_all, AllPass}
use Rattle.std.proofs.lemmas.Bool.Decides.{same_from_decides}
use Rattle.std.proofs.lemmas.List.Sums.{AllPass-from_list_all, list_all-from_AllPass}
use Rattle.esop.specs.Positionwise.{everywhere}
use Rattle.esop.proofs.Everywhere.{everywhere_all, everywhere_at}
use Rattle.cube.specs.declared.cube.Cube.{Cube}
use Rattle.sheet.specs.Text.{keeps_to}
use Rattle.sheet.specs.Writing.{all_keep}

-- a yes where the test holds of each number below n
pub everywhere_decided : (f : ℕ → Bool) (n : ℕ) (b : Bool) → Decides b ((j : ℕ) → j < n → f j ≡ true) → b ≡ everywhere f n
everywhere_decided f n b d = same_from_decides b (everywhere f n) d (λ h j l. everywhere_at f n j l h, λ h. everywhere_all f n h)

all_keep_listed : (i o : ℕ) (cs : List Cube) → list_all (keeps_to i o) cs ≡ all_keep i o cs
all_keep_listed i o [] = refl
all_keep_listed i o (c ∷ cs) = ap (λ b. keeps_to i o c && b) (all_keep_listed i o cs)

-- a yes where each product keeps to i inputs and o outputs
pub all_keep_decided : (i o : ℕ) (cs : List Cube) (b : Bool) → Decides b (AllPass (keeps_to i o) cs) → b ≡ all_keep i o cs
all_keep_decided i o cs b d =
    same_from_decides b (list_all (keeps_to i o) cs) d (AllPass-from_list_all (keeps_to i o) cs, list_all-from_AllPass (keeps_to i o) cs)
    ∙ all_keep_listed i o cs

of_item : (o : Option ℕ) (j : ℕ) (P : ℕ → Type 0) → option_map (λ y. y) o ≡ Some j → IfSome o P → P j
of_item None j P e h = absurd (let z : ◌≡◌ {A = ℕ} 0 1 = cc in omega arith)
of_item (Some x) j P e h = let q : x ≡ j = cc in subst P q h

-- a run of a range from 0 to n that asks a closure of each number, where the closure answers f of it
module _ {F : Type 0} (p : Run nat_range_steps) (g : Mut F (ℕ × Unit {0}) Bool) (s : F) (f : ℕ → Bool) (n : ℕ) where
  asked : p.from ≡ record { start = 0; end = n } → CallKeepsClosure g s → ((j : ℕ) (r : Bool) → Called g s (j, tt) r s → r ≡ f j)
      → (b : Bool) → MatchBool b ((p.whole ≡ true) × AllItemsGive p g s true) (AnyItemGives p g s false)
      → Decides b ((j : ℕ) → j < n → f j ≡ true)
  asked e k told true m = (
    λ _ j lt.
        let up = range_runs p p.seen in
        let from = ap (λ r. r.start) e in
        let past = ap (λ r. r.end) e in
        let same : p.from.start + j ≡ j = omega arith in
        let long = up.1 m.0 in
        sym (told j true (of_item (p.at j) j (λ x. Called g s (x, tt) true s) (up.3 j (omega arith) ∙ ap Some same) (m.1 k j))),
    λ _. refl,
  )
  asked e k told false m = (λ no. absurd (let z : ◌≡◌ {A = ℕ} 0 1 = cc in omega arith), λ all. grind (rules, ranges))

  pub asked_everywhere : (b : Bool) → p.from ≡ record { start = 0; end = n } → CallKeepsClosure g s → ((j : ℕ) (r : Bool) → Called g s (j, tt) r s → r ≡ f j)
      → MatchBool b ((p.whole ≡ true) × AllItemsGive p g s true) (AnyItemGives p g s false)
      → b ≡ everywhere f n
  asked_everywhere b e k told m = everywhere_decided f n b (asked e k told b m)
