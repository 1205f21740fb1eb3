use Rattle.rules.specs.Program.{module_first}
use Rattle.image.specs.Held.{meant}
use Rattle.text.specs.Marks.{Marked}
use Rattle.text.proofs.marks.marking.marks_of.Given as goal

abbrev pub invariant-loop-module : goal.invariant-loop-module
invariant-loop-module l = Marked (meant l.program) l.marks.items (module_first (meant l.program) l.module-index)
