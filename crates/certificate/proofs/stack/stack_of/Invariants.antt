use Rattle.std.proofs.Common.{ℕ, ◌<◌, length, pos}
use Rattle.rules.specs.declared.unit.UnitId.TheVariants.{Module, Mechanism}
use Rattle.rules.specs.Verdict.{DepthOf}
use Rattle.image.specs.Held.{meant}
use Rattle.certificate.specs.Deepest.{Within}
use Rattle.certificate.proofs.stack.stack_of.Given as goal

abbrev pub invariant-loop-module : goal.invariant-loop-module
invariant-loop-module l = DepthOf (meant l.formed.layout.program) (pos l.stack) × ((j : ℕ) → j < l.module-index → Within (meant l.formed.layout.program) l.stack (Module j))

abbrev pub invariant-loop-k : goal.invariant-loop-k
invariant-loop-k l = DepthOf (meant l.formed.layout.program) (pos l.stack) × ((j : ℕ) → j < length (meant l.formed.layout.program).lengths → Within (meant l.formed.layout.program) l.stack (Module j)) × ((j : ℕ) → j < l.k → Within (meant l.formed.layout.program) l.stack (Mechanism j))
