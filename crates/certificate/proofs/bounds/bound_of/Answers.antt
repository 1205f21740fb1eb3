use Rattle.std.proofs.Common.{sym, ap}
use Rattle.rules.specs.Named.{unit_named}
use Rattle.measures.specs.Meaning.{BoundsHold}
use Rattle.certificate.proofs.Moved.{moved}
use Rattle.certificate.proofs.bounds.bound_of.Goals as goal

pub unit_bound-requires : goal.unit_bound-requires
unit_bound-requires c = moved (λ p u. BoundsHold p u c.args.bounds.now) (sym c.real_unit-unit.ensures.0) (sym (ap unit_named c.real_unit-unit.ensures.1)) c.requires.bounded
