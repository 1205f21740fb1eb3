use Rattle.std.proofs.Common.{◌∙◌, arith}
use Rattle.cabinet.proofs.Overlays.{put_front}
use Rattle.cabinet.proofs.ports.read_inputs.Goals as goal

pub returns-clause-items : goal.returns-clause-items
returns-clause-items g c =
    let long = c.args.bytes.now.ok.0 in
    put_front _ _ _ _ _ (c.copy_from_slice.ensures.after ∙ c.inputs.ensures) c.deref_mut.ensures.value (g.met.C.Cabinet.lawful.eight_inputs c.args.cabinet.now).eight (omega arith) long
