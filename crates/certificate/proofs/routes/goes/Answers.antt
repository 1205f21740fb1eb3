use Rattle.std.proofs.Common.{arith}
use Rattle.walk.proofs.Givens.{unit_sound}
use Rattle.certificate.proofs.routes.goes.Goals as goal

pub line-line-requires : goal.line-line-requires
line-line-requires c = let u = c.args.unit.now in omega (arith, (unit_sound u).high c.args.l c.requires, u.end_is)
