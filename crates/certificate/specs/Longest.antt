-- The longest routes: of the mechanisms, as a list of their steps, and of a unit, as it is found by going back. Assumes nothing.
use Rattle.std.specs.Prelude.{◌≡◌, ℕ, ◌-◌, ◌<◌, Bool, true, false, List, ◌++◌, length, Some, None, Option, slice_index, slice_index_or}
use Rattle.rules.specs.declared.unit.UnitId.{UnitId}
use Rattle.rules.specs.declared.unit.UnitId.TheVariants.{Mechanism}
use Rattle.rules.specs.Op.{is_exit}
use Rattle.rules.specs.Program.{Program, Own, line_at, first}
use Rattle.rules.specs.Route.{Way, Arrives, Route, Steps, Takes, Greatest}
use Rattle.walk.specs.Walked.{OwnOrEnd, along}
use Rattle.measures.specs.Models.{steps_after}

-- a list with the greatest number of steps of each mechanism's routes
pub record MechanismBounds (p : Program) (bounds : List ℕ) : Type 0 where
  pub long : length bounds ≡ length p.activation
  pub each : (k : ℕ) → k < length p.activation → Greatest (Takes p (Mechanism k)) (slice_index bounds k)

-- whether something holds
abbrev pub Tells : Bool → Type 0 → Type 0
Tells true P = P
Tells false P = P → ⊥

-- the entry for line l in the table of a unit's walk
abbrev pub entry_of : Program → UnitId → List (Option ℕ) → ℕ → Option ℕ
entry_of p u table l = slice_index_or table (l - first p u) None

-- a place of the unit to which a longest route has v steps
pub record LongestAt (p : Program) (u : UnitId) (table : List (Option ℕ)) (m v : ℕ) : Type 0 where
  pub place : OwnOrEnd p u m
  pub read : entry_of p u table m ≡ Some v

-- an own line l with v steps after it on a longest route to it
pub record GoesPast (p : Program) (u : UnitId) (bounds : List ℕ) (table : List (Option ℕ)) (v l : ℕ) : Type 0 where
  pub own : Own p u l
  pub value : ℕ
  pub read : entry_of p u table l ≡ Some value
  pub adds : steps_after bounds l (line_at p l) value ≡ v

-- the steps after line l on a longest route to it, where it is an own line
abbrev pub StepsPast : Program → UnitId → List ℕ → List (Option ℕ) → ℕ → Option ℕ → Type 0
StepsPast p u bounds table l None = Own p u l → ⊥
StepsPast p u bounds table l (Some v) = GoesPast p u bounds table v l

-- a longest route to line m, with v steps, may come from line l
abbrev pub Leads : Program → UnitId → List ℕ → List (Option ℕ) → ℕ → ℕ → ℕ → Type 0
Leads p u bounds table m v l = GoesPast p u bounds table v l × Way p l m

-- the line before place m on a longest route to it; none where that has no step
abbrev pub Precedes : Program → UnitId → List ℕ → List (Option ℕ) → ℕ → Option ℕ → Type 0
Precedes p u bounds table m None = LongestAt p u table m 0
Precedes p u bounds table m (Some l) = (v : ℕ) × LongestAt p u table m v × Leads p u bounds table m v l

-- a longest route with v steps may stop at line l
abbrev pub Stops : Program → UnitId → List ℕ → List (Option ℕ) → ℕ → ℕ → Type 0
Stops p u bounds table v l = GoesPast p u bounds table v l × (is_exit (line_at p l) ≡ true)

-- a whole route, the newest line first, with n steps
abbrev pub Counts : Program → UnitId → List ℕ → ℕ → List ℕ → Type 0
Counts p u bounds n path = Route p u path × (along 0 (steps_after bounds) p path ≡ n)

-- each route to m with v steps goes on by lines, the newest first, to a whole route with n steps
abbrev pub GoesOn : Program → UnitId → List ℕ → ℕ → List ℕ → ℕ → ℕ → Type 0
GoesOn p u bounds n lines m v = (path : List ℕ) → Arrives p u path m → along 0 (steps_after bounds) p path ≡ v → Counts p u bounds n (lines ++ path)

-- lines, the newest first, that go on from a place where longest routes have no step to a whole route with n steps
pub record Traced (p : Program) (u : UnitId) (bounds : List ℕ) (table : List (Option ℕ)) (n : ℕ) (lines : List ℕ) : Type 0 where
  pub from : ℕ
  pub begins : LongestAt p u table from 0
  pub goes_on : GoesOn p u bounds n lines from 0

-- a route, the newest line first, that has as many steps as any of its unit
pub record Longest (p : Program) (u : UnitId) (path : List ℕ) : Type 0 where
  pub steps : ℕ
  pub route : Route p u path
  pub takes : Steps p path steps
  pub most : Greatest (Takes p u) steps
