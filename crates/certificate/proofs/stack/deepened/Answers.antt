use Rattle.std.proofs.Common.{ℕ, List, length, ℤ, vec_items, Option, ap, subst}
use Rattle.rules.specs.Named.{unit_named}
use Rattle.walk.specs.UnitTexts.{program_of, id_of}
use Rattle.walk.proofs.Givens.{unit_real, unit_sound}
use Rattle.certificate.specs.Deepest.{Highest, Deepened}
use Rattle.certificate.proofs.Moved.{moved}
use Rattle.certificate.proofs.Depths.{unit_deepened}
use Rattle.certificate.proofs.stack.deepened.Goals as goal

pub returns : goal.returns
returns c =
    let u = c.real_unit-unit.result in
    let n = c.highest_depth.result in
    let table = vec_items c.in_ok-table.table in
    moved (λ p i. Deepened p i c.args.so_far n) c.real_unit-unit.ensures.0 (ap unit_named c.real_unit-unit.ensures.1)
    (unit_deepened (program_of u) (id_of u) (unit_real u) (unit_sound u) _ table c.args.so_far n c.in_ok-table.ensures
    (subst (λ (t : List (Option (ℕ × (ℤ × ℤ)))). Highest t (length t) c.args.so_far n) c.deref.ensures.value c.highest_depth.ensures))
