use Rattle.std.proofs.Common.{vec_items}
use Rattle.walk.specs.Stages.{Staged}
use Rattle.walk.specs.UnitTexts.{program_of, id_of}
use Rattle.walk.proofs.table.walk.Given as goal

abbrev pub invariant-loop-i : goal.invariant-loop-i
invariant-loop-i g l =
    let m = g.M.Measure in
    Staged m.begins (m.effect l.measure) m.joined (program_of l.unit) (id_of l.unit) l.i (vec_items l.table)
