use Rattle.std.proofs.Common.{take, drop}
use Rattle.rules.specs.Cabinet.{Sent}
use Rattle.cabinet.proofs.Overlays.{over}
use Rattle.cabinet.proofs.ports.send.Given as goal

abbrev pub invariant-loop-port : goal.invariant-loop-port
invariant-loop-port g l =
    Sent g.C.Cabinet.meaning l.initial.cabinet (over (take 8 (drop 8 l.fn.bytes)) (g.C.Cabinet.meaning.terminals l.initial.cabinet) l.port) l.cabinet
