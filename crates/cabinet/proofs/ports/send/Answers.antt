use Rattle.std.proofs.Common.{rules, ◌≡◌, get_or, take, drop, ap, ◌∙◌, arith}
use Rattle.cabinet.proofs.Overlays.{over_more, length-outputs, written_there}
use Rattle.cabinet.proofs.ports.send.Goals as goal

pub loop-port-preserved : goal.loop-port-preserved
loop-port-preserved g c =
    let eight = (g.met.C.Cabinet.lawful.eight_terminals c.args.cabinet.now).eight in
    let outputs = length-outputs c.args.bytes.now (omega arith) in
    let copied : c.unwrap-outputs.result ≡ take 8 (drop 8 c.args.bytes.now) = search rules in
    let so_far = c.loop-port.invariant in
    let sent = c.write.ensures.sent in
    record {
      terminals_are = over_more _ _ _ _ _ _ (sent.terminals_are ∙ written_there _ _ _ (omega arith)) (omega arith) (omega arith) so_far.terminals_are (ap (λ l. get_or l c.loop-port.port 0) copied);
      inputs_stay = sent.inputs_stay ∙ so_far.inputs_stay;
      rest_stays = g.met.C.Cabinet.lawful.keeps_on _ _ _ so_far.rest_stays sent.rest_stays;
    }
