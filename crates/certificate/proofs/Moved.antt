-- What holds of a unit of one formed program holds of the same unit of the same program. Assumes nothing.
use Rattle.std.proofs.Common.{◌≡◌, subst}
use Rattle.rules.specs.declared.unit.UnitId.{UnitId}
use Rattle.rules.specs.Program.{Program}
use Rattle.image.specs.Held.{meant}
use Rattle.text.specs.declared.formed.Formed.{Formed}

pub moved : (P : Program → UnitId → Type 0) {f g : Formed} {i j : UnitId} → f ≡ g → i ≡ j → P (meant f.layout.program) i → P (meant g.layout.program) j
moved P {f} {g} {i} {j} e h x = subst (λ (z : Formed). P (meant z.layout.program) j) e (subst (λ (z : UnitId). P (meant f.layout.program) z) h x)
