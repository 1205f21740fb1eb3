use Rattle.image.specs.Held.{meant}
use Rattle.text.specs.Finds.{Finds}
use Rattle.verdict.specs.Units.{IsBadAmong}
use Rattle.verdict.proofs.units.first_bad_line.Given as goal

abbrev pub invariant-loop-i : goal.invariant-loop-i
invariant-loop-i l = Finds (IsBadAmong (meant l.formed.layout.program) l.i) l.first
