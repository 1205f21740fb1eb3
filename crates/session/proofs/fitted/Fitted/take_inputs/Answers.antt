use Rattle.std.proofs.Common.{sym, ap, subst}
use Rattle.rules.specs.Run.{with_bytes}
use Rattle.machine.specs.declared.memory.Memory.{Memory}
use Rattle.theory.specs.Standing.{Fitting}
use Rattle.theory.proofs.Ruled.{formed}
use Rattle.theory.proofs.Sessions.{inputs_fit}
use Rattle.verdict.proofs.Kept.{accepted}
use Rattle.session.specs.States.{program_at, memory_at}
use Rattle.session.proofs.Fits.{fits, kept}
use Rattle.session.proofs.fitted.Fitted.take_inputs.Goals as goal

pub invariant_of-self : goal.invariant_of-self
invariant_of-self g c =
    let f = c.args.self.now in
    let p = program_at f in
    let eight = (g.met.C.Cabinet.lawful.eight_inputs c.args.cabinet.now).eight in
    let m : Memory = record { bytes = c.read_inputs.new.bytes; init_point = f.memory.init_point; done_point = f.memory.done_point; points = f.memory.points } in
    kept f.program.now m (subst (Fitting p) (sym (ap (with_bytes (memory_at f)) c.read_inputs.ensures.items)) (inputs_fit p (formed p (accepted f.program.now)) (memory_at f) (g.C.Cabinet.meaning.inputs c.args.cabinet.now) eight (fits f)))
