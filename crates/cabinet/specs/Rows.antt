-- What the rows of a stimulus cabinet do. Assumes nothing.
use Rattle.std.specs.Prelude.{ℕ, suc, ◌+◌, min, cond, List, [], ◌∷◌, nat_le}
use Rattle.cabinet.specs.declared.row.Row.{Row}
use Rattle.cabinet.specs.Ports.{written}

-- the inputs once rows are applied in order, up to the first with a number above n
abbrev pub applied : ℕ → List Row → List ℕ → List ℕ
applied n [] inputs = inputs
applied n (r ∷ rows) inputs = cond (nat_le r.scan n) (applied n rows (written inputs r.port r.byte)) inputs

-- how many rows those are
abbrev pub due : ℕ → List Row → ℕ
due n [] = 0
due n (r ∷ rows) = cond (nat_le r.scan n) (suc (due n rows)) 0

-- the next scan number; it stops at the largest of 32 bits
abbrev pub next_number : ℕ → ℕ
next_number n = min (n + 1) 4294967295
