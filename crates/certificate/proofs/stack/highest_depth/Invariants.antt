use Rattle.certificate.specs.Deepest.{Highest}
use Rattle.certificate.proofs.stack.highest_depth.Given as goal

abbrev pub invariant-loop-entry : goal.invariant-loop-entry
invariant-loop-entry l = Highest l.table l.entry-index l.so_far l.highest
