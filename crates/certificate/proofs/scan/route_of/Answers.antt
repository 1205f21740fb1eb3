use Rattle.std.proofs.Common.{sym, ap}
use Rattle.rules.specs.Named.{unit_named}
use Rattle.measures.specs.Meaning.{BoundsHold}
use Rattle.certificate.proofs.Moved.{moved}
use Rattle.certificate.proofs.scan.route_of.Goals as goal

pub longest_route-requires : goal.longest_route-requires
longest_route-requires c = moved (λ p u. BoundsHold p u c.args.bounds.now) (sym c.real_unit-unit.ensures.0) (sym (ap unit_named c.real_unit-unit.ensures.1)) c.requires.bounded
