use Rattle.std.proofs.Common.{rules}
use Rattle.cabinet.proofs.Calls.{answered, made}
use Rattle.cabinet.proofs.ports.inputs.Goals as goal

pub returns : goal.returns
returns g c = made _ _ _ (λ i y q k. (search (rules, answered), search rules)) _ (g.met.C.Cabinet.lawful.eight_inputs c.args.cabinet.now).eight c.from_fn.ensures.items
