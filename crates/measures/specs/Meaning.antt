-- What the values of the measures mean of a unit's routes. Assumes nothing.
use Rattle.std.specs.Prelude.{◌≡◌, ℕ, ◌+◌, ◌-◌, ◌/◌, ◌%◌, ◌^◌, ◌<◌, Bool, true, false, List, length, ℤ, ◌≤ℤ◌, Some, None, Option, ◌==◌, slice_index, slice_index_or}
use Rattle.rules.specs.declared.unit.UnitId.{UnitId}
use Rattle.rules.specs.declared.unit.UnitId.TheVariants.{Module, Mechanism}
use Rattle.rules.specs.Program.{Program, main_module, first, end}
use Rattle.rules.specs.Route.{Arrives, Steps, Takes, Greatest, depth, Initialises}
use Rattle.walk.specs.Walked.{OwnOrEnd}
use Rattle.measures.specs.declared.mechanism_set.MechanismSet.{MechanismSet}

-- a route comes to line l in n steps
abbrev pub Comes : Program → UnitId → ℕ → ℕ → Type 0
Comes p u l n = (path : List ℕ) × Arrives p u path l × Steps p path n

-- the bounds are those of the mechanisms, as MAIN needs them; a unit without MECH_BEGIN needs none
abbrev pub BoundsHold : Program → UnitId → List ℕ → Type 0
BoundsHold p u bounds = u ≡ Module main_module → (k : ℕ) → k < length p.activation → Greatest (Takes p (Mechanism k)) (slice_index bounds k)

-- the lowest and the highest depth with which a route comes to line l: none is below or above, and both are a route's
pub record DepthRange (p : Program) (u : UnitId) (l : ℕ) (low high : ℤ) : Type 0 where
  pub none_below : (path : List ℕ) → Arrives p u path l → low ≤ℤ depth p path
  pub none_above : (path : List ℕ) → Arrives p u path l → depth p path ≤ℤ high
  pub low_attained : (path : List ℕ) × Arrives p u path l × (depth p path ≡ low)
  pub high_attained : (path : List ℕ) × Arrives p u path l × (depth p path ≡ high)

-- a table of steps with depths: at each own line of the unit and at its end the greatest number of steps, and the lowest and the highest depth, with which a route comes there
pub record Surveyed (p : Program) (u : UnitId) (bounds : List ℕ) (table : List (Option (ℕ × (ℤ × ℤ)))) : Type 0 where
  pub long : first p u + length table ≡ end p u + 1
  pub entry : (l : ℕ) → OwnOrEnd p u l → (v : ℕ × (ℤ × ℤ)) × (slice_index_or table (l - first p u) None ≡ Some v) × (BoundsHold p u bounds → Greatest (Comes p u l) v.0) × DepthRange p u l v.1.0 v.1.1
  pub nowhere_else : (k : ℕ) (v : ℕ × (ℤ × ℤ)) → slice_index_or table k None ≡ Some v → OwnOrEnd p u (first p u + k)

-- whether mechanism k is in a set
abbrev pub holds : MechanismSet → ℕ → Bool
holds s k = s.bits / 2 ^ k % 2 == 1

-- a set of the mechanisms that every route to the unit's end initialises
pub record InitialisedByAll (p : Program) (u : UnitId) (s : MechanismSet) : Type 0 where
  pub by_each : (k : ℕ) → k < length p.activation → holds s k ≡ true → (path : List ℕ) → Arrives p u path (end p u) → Initialises p k path
  pub not_by_one : (k : ℕ) → k < length p.activation → holds s k ≡ false → (path : List ℕ) × Arrives p u path (end p u) × (Initialises p k path → ⊥)

-- some route to the unit's end leaves a mechanism uninitialised
abbrev pub LeavesOut : Program → UnitId → Type 0
LeavesOut p u = (k : ℕ) × (path : List ℕ) × (k < length p.activation) × Arrives p u path (end p u) × (Initialises p k path → ⊥)

-- an answer says no exactly where some route leaves a mechanism out
pub record TellsLeftOut (p : Program) (u : UnitId) (all : Bool) : Type 0 where
  pub on_no : all ≡ false → LeavesOut p u
  pub on_yes : all ≡ true → LeavesOut p u → ⊥
