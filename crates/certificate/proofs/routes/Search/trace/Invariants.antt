use Rattle.std.proofs.Common.{◌+◌, vec_items}
use Rattle.std.specs.Option.{option_map_or}
use Rattle.walk.specs.UnitTexts.{program_of, id_of}
use Rattle.walk.proofs.Givens.{unit_sound}
use Rattle.certificate.proofs.Back.{Ahead}
use Rattle.certificate.proofs.routes.Search.trace.Given as goal

abbrev pub invariant-loop-next : goal.invariant-loop-next
invariant-loop-next l =
    let u = l.self.unit in
    Ahead (program_of u) (id_of u) (unit_sound u) l.self.steps.bounds.now (vec_items l.self.table) l.n (vec_items l.lines) l.next

abbrev pub decreases-loop-next : goal.decreases-loop-next
decreases-loop-next l = option_map_or (λ k. k + 1) l.next 0
