use Rattle.std.proofs.Common.{refl}
use Rattle.rules.specs.Session.{halts}
use Rattle.session.proofs.Passed.{to_end}
use Rattle.session.proofs.running.Running.halt.Goals as goal

pub returns : goal.returns
returns g c = record {
  comes = halts (record { steps = c.pass.result.steps; halt_pass = to_end (c.pass.ensures.whole refl) c.pass.ensures.passes; phase_stays = refl });
  cabinet_after = c.send_outputs.ensures;
}
