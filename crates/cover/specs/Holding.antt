-- What a cover holds.
use Rattle.std.specs.Prelude.{◌≡◌, ℕ, ◌+◌, ◌-◌, ◌≤◌, min, List, length, take, drop}
use Rattle.esop.specs.History.{Held}
use Rattle.cover.specs.declared.memory.Cover.{Cover}

module _ {P : Type 0} {N : ℕ} where
  -- the products
  abbrev pub used : Cover P N → List P
  used c = take c.count c.places.now

  -- what the free places hold
  abbrev pub free : Cover P N → List P
  free c = drop c.count c.places.now

  abbrev pub held_of : Cover P N → Held P
  held_of c = record { used = used c; free = free c }

  -- how many places can still be taken
  abbrev pub spare : Cover P N → ℕ
  spare c = min N (length c.places.now) - c.count

  -- the two stand on the same places, lent once
  pub record SameLoan (c d : Cover P N) : Type 0 where
    pub size : length d.places.now ≡ length c.places.now
    pub lender : d.places.ghost_name ≡ c.places.ghost_name

  -- a work memory of so many places is enough to try a group: it has at least two places more than are in use
  abbrev pub IsEnough : Cover P N → ℕ → Type 0
  IsEnough c work = c.count + 2 ≤ work
