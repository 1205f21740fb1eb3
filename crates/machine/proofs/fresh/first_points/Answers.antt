use Rattle.std.proofs.Common.{rules, arith}
use Rattle.std.proofs.lemmas.Iterator.{items_from_collect, YieldsList-from_map, YieldsList-from_range}
use Rattle.machine.specs.Views.{program_of}
use Rattle.machine.proofs.FirstLines.{first_lines_are}
use Rattle.machine.proofs.fresh.first_points.Goals as goal

pub returns : goal.returns
returns c =
    let n = (program_of c.args.program.now).activation in
    rw (first_lines_are (program_of c.args.program.now) 0 n)
    (items_from_collect _ c.collect.ensures.ran (YieldsList-from_map _ _ (YieldsList-from_range 0 _ _ c.map.ensures.source (omega arith)) c.map.ensures.closure (λ x r q k. search rules)))
