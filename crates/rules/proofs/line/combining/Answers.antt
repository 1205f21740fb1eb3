use Rattle.std.proofs.Common.{rules}
use Rattle.rules.specs.declared.op.Op.TheVariants.{Combine}
use Rattle.rules.proofs.line.combining.Goals as goal

pub returns : goal.returns
returns c = let e = c.negation.ensures (λ s. Combine c.args.logic s c.args.bit) in search rules
