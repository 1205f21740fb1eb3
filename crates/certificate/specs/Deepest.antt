-- The greatest depth: of a table, of a unit's routes, and of the routes of all units. Assumes nothing.
use Rattle.std.specs.Prelude.{◌≡◌, ℕ, ◌<◌, ◌≤◌, ◌⊎◌, List, ℤ, pos, ◌≤ℤ◌, Some, None, Option, slice_index_or}
use Rattle.rules.specs.declared.unit.UnitId.{UnitId}
use Rattle.rules.specs.Program.{Program}
use Rattle.rules.specs.Route.{Arrives, depth}
use Rattle.rules.specs.Verdict.{DepthOf}

-- n cells are a depth, or none where it is negative
abbrev pub CellsOf : ℤ → ℕ → Type 0
CellsOf d n = (d ≤ℤ pos n) × ((n ≡ 0) ⊎ (d ≡ pos n))

-- n is the larger of a number of cells and the highest depth at a place of a table
abbrev pub Raised : Option (ℕ × (ℤ × ℤ)) → ℕ → ℕ → Type 0
Raised None before n = n ≡ before
Raised (Some v) before n = (before ≤ n) × (v.1.1 ≤ℤ pos n) × ((n ≡ before) ⊎ (v.1.1 ≡ pos n))

-- n is the larger of a number of cells and the highest depth at the first places of a table
pub record Highest (table : List (Option (ℕ × (ℤ × ℤ)))) (count before n : ℕ) : Type 0 where
  pub no_less : before ≤ n
  pub none_above : (k : ℕ) (v : ℕ × (ℤ × ℤ)) → k < count → slice_index_or table k None ≡ Some v → v.1.1 ≤ℤ pos n
  pub one_of : (n ≡ before) ⊎ ((k : ℕ) × (v : ℕ × (ℤ × ℤ)) × (slice_index_or table k None ≡ Some v) × (v.1.1 ≡ pos n))

-- no route of the unit has more than n cells stacked where it arrives
abbrev pub Within : Program → ℕ → UnitId → Type 0
Within p n u = (l : ℕ) (path : List ℕ) → Arrives p u path l → depth p path ≤ℤ pos n

-- n is the larger of a number of cells and the greatest depth of a unit's routes
pub record Deepened (p : Program) (u : UnitId) (before n : ℕ) : Type 0 where
  pub no_less : before ≤ n
  pub within : Within p n u
  pub attained : DepthOf p (pos before) → DepthOf p (pos n)

-- n is the greatest depth of all routes
pub record StackOf (p : Program) (n : ℕ) : Type 0 where
  pub none_above : (d : ℤ) → DepthOf p d → d ≤ℤ pos n
  pub attained : DepthOf p (pos n)
