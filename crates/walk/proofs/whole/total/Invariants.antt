use Rattle.walk.specs.Joins.{JoinOf}
use Rattle.walk.specs.Stages.{Stopped}
use Rattle.walk.specs.UnitTexts.{program_of, id_of}
use Rattle.walk.proofs.whole.total.Given as goal

abbrev pub invariant-loop-i : goal.invariant-loop-i
invariant-loop-i g l =
    let m = g.M.Measure in
    JoinOf m.joined (Stopped m.begins (m.effect l.measure) (program_of l.unit) (id_of l.unit) l.i) l.best
