-- What the type of accepted programs keeps is what the rules call accepted. Assumes nothing.
use Rattle.rules.specs.Verdict as rules
use Rattle.image.specs.Held.{meant}
use Rattle.text.proofs.Shape.{shaped}
use Rattle.verdict.specs.declared.accepted.Accepted.{Accepted}

pub accepted : (a : Accepted) → rules.Accepted (meant a.formed.layout.program)
accepted a = record { shaped = shaped a.formed.layout.program; unbroken = a.unbroken }
