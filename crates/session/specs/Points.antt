-- The points of a running program, as its type keeps them. Assumes nothing.
use Rattle.std.specs.Prelude.{◌≡◌, true}
use Rattle.rules.specs.declared.unit.UnitId.{UnitId}
use Rattle.rules.specs.Program.{Program, Real, sequential}
use Rattle.rules.specs.Route.{Entry}
use Rattle.rules.specs.Run.{Memory, point}

-- no sequential unit's point is elsewhere than at its first line or directly after one of its own EX-type lines
abbrev pub PointsStand : Program → Memory → Type 0
PointsStand p m = (u : UnitId) → Real p u → sequential u ≡ true → (Entry p u (point p m u) → ⊥) → ⊥
