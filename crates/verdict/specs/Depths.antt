-- Where a unit's routes come with depths that do not serve. Assumes nothing.
use Rattle.std.specs.Prelude.{ℕ, ◌⊎◌, List, ℤ, ◌≢◌}
use Rattle.rules.specs.declared.unit.UnitId.{UnitId}
use Rattle.rules.specs.Program.{Program}
use Rattle.rules.specs.Route.{Arrives, depth}
use Rattle.rules.specs.Verdict.{OffBalance}

-- at line l of unit u two routes arrive with different depths, or one with a depth that does not serve
pub data IsBadIn (p : Program) (u : UnitId) (l : ℕ) : Type 0 where
  differ : {a b : List ℕ} → Arrives p u a l → Arrives p u b l → (depth p a ≢ depth p b) → IsBadIn p u l
  misfit : {a : List ℕ} → Arrives p u a l → OffBalance p u l (depth p a) → IsBadIn p u l

-- the lowest and the highest depth at line l differ, or the one depth does not serve
abbrev pub Misfits : Program → UnitId → ℕ → ℤ → ℤ → Type 0
Misfits p u l low high = (low ≢ high) ⊎ OffBalance p u l low
