-- The points of the units of a program. Assumes nothing.
use Rattle.std.proofs.Common.{◌≡◌, vec_len, arith}
use Rattle.std.proofs.Math.Logic.{∥∥₁_elim}
use Rattle.std.specs.Coded.{le_prop}
use Rattle.rules.specs.declared.unit.UnitId.{UnitId}
use Rattle.rules.specs.declared.unit.UnitId.TheVariants.{Module, Mechanism}
use Rattle.rules.specs.Program.{Real}
use Rattle.verdict.specs.declared.accepted.Accepted.{Accepted}
use Rattle.machine.specs.declared.memory.Memory.{Memory}
use Rattle.machine.specs.Views.{program_of, HasPoint}

-- a memory with a point for each mechanism has the point of each unit
pub has_point : (a : Accepted) (m : Memory) (u : UnitId) → ∥ Real (program_of a) u ∥₁ → vec_len m.points ≡ vec_len a.formed.layout.program.activation → HasPoint m u
has_point a m (Module n) real fit = tt
has_point a m (Mechanism k) real fit = ∥∥₁_elim real le_prop (λ h. omega (arith, a.formed.layout.program.activation.ok.0))
