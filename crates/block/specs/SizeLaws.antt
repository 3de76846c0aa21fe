-- Each entry of the table of sizes is right: three tests, which antt computes over the whole table, and an induction on each side.
-- Assumes nothing.
use Rattle.std.specs.Prelude.{◌≡◌, ℕ, zero, suc, ◌+◌, ◌^◌, ◌<◌, ◌≤◌, Bool, true, false, ◌&&◌, ◌||◌, leb, List, [], ◌∷◌, length, ◌==◌, ◌≢◌, bit_xor, nat_le, nat_lt, refl}
use Rattle.std.proofs.Common.{sym, ap, ◌∙◌, subst, inl, inr, arith}
use Rattle.std.proofs.lemmas.Nat.{xor_lt}
use Rattle.std.specs.Int.Bits.{xor_self, xor_assoc, xor_zero_l}
use Rattle.std.proofs.Math.ListN.{get_or-eq_default}
use Rattle.std.proofs.lemmas.Bool.{eqb-true, eq-eqb, leb-true, ltb-true, and_parts, and_from, or_cases, or_left, or_right, false≢true, cases_eq, cases_lt}
use Rattle.block.specs.Sizes.{cubes, is_in, are_cubes, xor_all, Fewest, sizes, size_of}

-- the test passes at each of the list
every : (ℕ → Bool) → List ℕ → Bool
every f [] = true
every f (x ∷ xs) = f x && every f xs

every_at : (f : ℕ → Bool) (xs : List ℕ) → every f xs ≡ true → (c : ℕ) → is_in c xs ≡ true → f c ≡ true
unfolding every
every_at f [] t c h = absurd (false≢true h)
every_at f (x ∷ xs) t c h =
    let (here, rest) = and_parts (f x) (every f xs) t in
    elim (or_cases (c == x) (is_in c xs) h) [ inl e ↦ ap f (eqb-true c x e) ∙ here | inr m ↦ every_at f xs rest c m ]

-- the test passes at one of the list
any : (ℕ → Bool) → List ℕ → Bool
any f [] = false
any f (x ∷ xs) = f x || any f xs

any_at : (f : ℕ → Bool) (xs : List ℕ) → any f xs ≡ true → (c : ℕ) × (is_in c xs ≡ true) × (f c ≡ true)
unfolding any
any_at f [] t = absurd (false≢true t)
any_at f (x ∷ xs) t =
    elim (or_cases (f x) (any f xs) t) [
      | inl here ↦ (x, or_left (x == x) (is_in x xs) (eq-eqb x x refl), here)
      | inr later ↦ (let (c, m, p) = any_at f xs later in (c, or_right (c == x) (is_in c xs) m, p))
    ]

-- the test passes at each number below n
below : (ℕ → Bool) → ℕ → Bool
below f zero = true
below f (suc n) = f n && below f n

below_at : (f : ℕ → Bool) (n : ℕ) → below f n ≡ true → (b : ℕ) → b < n → f b ≡ true
unfolding below
below_at f zero t b h = absurd (omega arith)
below_at f (suc n) t b h =
    let (here, rest) = and_parts (f n) (below f n) t in
    elim (cases_eq b n) [ inl e ↦ ap f e ∙ here | inr ne ↦ below_at f n rest b (omega arith) ]

-- a cube more adds at most 1 to the size of byte b
rises : ℕ → ℕ → Bool
rises b c = nat_le (size_of (bit_xor c b)) (1 + size_of b)

-- a cube more leaves byte b at a size less by 1
falls : ℕ → ℕ → Bool
falls b c = 1 + size_of (bit_xor c b) == size_of b

-- the three tests: each cube is a byte; no cube adds more than 1 to a size; a byte is 0, or some cube takes 1 from its size
cubes_small : every (λ c. nat_lt c 256) cubes ≡ true
unfolding every cubes
cubes_small = refl

all_rise : below (λ b. every (rises b) cubes) 256 ≡ true
unfolding every below rises cubes
all_rise = refl

all_fall : below (λ b. (b == 0) || any (falls b) cubes) 256 ≡ true
unfolding any below falls cubes
all_fall = refl

cube_lt : (c : ℕ) → is_in c cubes ≡ true → c < 2 ^ 8
cube_lt c h = ltb-true c 256 (every_at (λ c. nat_lt c 256) cubes cubes_small c h)

rise : (b c : ℕ) → b < 2 ^ 8 → is_in c cubes ≡ true → size_of (bit_xor c b) ≤ 1 + size_of b
unfolding rises
rise b c l h = leb-true _ _ (every_at (rises b) cubes (below_at (λ b. every (rises b) cubes) 256 all_rise b l) c h)

xor_all_lt : (cs : List ℕ) → are_cubes cs ≡ true → xor_all cs < 2 ^ 8
xor_all_lt [] h = omega arith
xor_all_lt (c ∷ cs) h = let (here, rest) = and_parts (is_in c cubes) (are_cubes cs) h in xor_lt 8 c (xor_all cs) (cube_lt c here) (xor_all_lt cs rest)

-- no list of cubes is shorter than the size of what it makes
no_shorter : (cs : List ℕ) → are_cubes cs ≡ true → size_of (xor_all cs) ≤ length cs
no_shorter [] h = omega arith
no_shorter (c ∷ cs) h =
    let (here, rest) = and_parts (is_in c cubes) (are_cubes cs) h in
    let front : size_of (bit_xor c (xor_all cs)) ≤ 1 + size_of (xor_all cs) = rise (xor_all cs) c (xor_all_lt cs rest) here in
    let back : size_of (xor_all cs) ≤ length cs = no_shorter cs rest in
    omega arith

xor_back : (c b : ℕ) → bit_xor c (bit_xor c b) ≡ b
xor_back c b = sym (xor_assoc c c b) ∙ ap (λ n. bit_xor n b) (xor_self c) ∙ xor_zero_l b

-- the cubes that make byte b, n of them
abbrev Makes : ℕ → ℕ → Type 0
Makes b n = (cs : List ℕ) × (are_cubes cs ≡ true) × (length cs ≡ n) × (xor_all cs ≡ b)

-- with no cube when b is 0
makes_zero : (n b : ℕ) → size_of b ≡ n → b ≡ 0 → Makes b n
makes_zero n b s z = ([], refl, sym (ap size_of z) ∙ s, sym z)

-- a byte that is not 0 has a cube that takes 1 from its size
fall : (b : ℕ) → b < 2 ^ 8 → (b ≢ 0) → (c : ℕ) × (is_in c cubes ≡ true) × (1 + size_of (bit_xor c b) ≡ size_of b)
unfolding falls
fall b l ne =
    elim (or_cases (b == 0) (any (falls b) cubes) (below_at (λ b. (b == 0) || any (falls b) cubes) 256 all_fall b l)) [
      | inl z ↦ absurd (ne (eqb-true b 0 z))
      | inr t ↦ (let (c, m, p) = any_at (falls b) cubes t in (c, m, eqb-true _ _ p))
    ]

makes : (n b : ℕ) → b < 2 ^ 8 → size_of b ≡ n → Makes b n
makes zero b l s =
    elim (cases_eq b 0) [ inl z ↦ makes_zero 0 b s z | inr ne ↦ (let (c, m, p) = fall b l ne in absurd (omega (arith, p, s))) ]
makes (suc n) b l s =
    elim (cases_eq b 0) [
      | inl z ↦ makes_zero (suc n) b s z
      | inr ne ↦
          (let (c, m, p) = fall b l ne in
          let less : size_of (bit_xor c b) ≡ n = omega (arith, p, s) in
          let (cs, are, long, all) = makes n (bit_xor c b) (xor_lt 8 c b (cube_lt c m) l) less in
          (c ∷ cs, and_from (is_in c cubes) (are_cubes cs) m are, ap suc long, ap (bit_xor c) all ∙ xor_back c b))
    ]

pub fewest : (b : ℕ) → b < 2 ^ 8 → Fewest b (size_of b)
fewest b l =
    record {
      some = makes (size_of b) b l refl;
      no_fewer = λ cs h e. subst (λ m. size_of m ≤ length cs) e (no_shorter cs h);
    }

pub fewest_is : (b n : ℕ) → n ≡ size_of b → b < 2 ^ 8 → Fewest b n
fewest_is b n e l = subst (Fewest b) (sym e) (fewest b l)

-- no byte takes more than three cubes
all_small : below (λ b. leb (size_of b) 3) 256 ≡ true
unfolding below
all_small = refl

pub size_most : (b : ℕ) → size_of b ≤ 3
size_most b =
    elim (cases_lt b 256) [
      | inl l ↦ leb-true _ _ (below_at (λ b. leb (size_of b) 3) 256 all_small b l)
      | inr past ↦ (let none : size_of b ≡ 0 = get_or-eq_default sizes 0 past in omega (arith, none))
    ]
