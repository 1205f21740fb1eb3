use Rattle.std.proofs.Common.{sym, subst}
use Rattle.theory.specs.Standing.{Fitting}
use Rattle.theory.proofs.Sessions.{fresh_fits}
use Rattle.machine.specs.Views.{program_of}
use Rattle.session.proofs.Fits.{kept}
use Rattle.session.proofs.fitted.Fitted.fresh.Goals as goal

pub invariant_of-result : goal.invariant_of-result
invariant_of-result c =
    let p = program_of c.args.program.now in
    kept c.args.program.now c.in_ok-memory.memory (subst (Fitting p) (sym c.in_ok-memory.ensures) (fresh_fits p))
