use Rattle.std.proofs.Common.{◌≡◌, ℕ, sym, subst}
use Rattle.rules.specs.Program.{module_first, block_init, block_done}
use Rattle.theory.proofs.Sessions.{back_fits}
use Rattle.rules.specs.Session.{block_points_back}
use Rattle.theory.specs.Standing.{Fitting}
use Rattle.machine.specs.Views.{memory_of}
use Rattle.machine.specs.declared.memory.Memory.{Memory}
use Rattle.session.specs.declared.fitted.Fitted.{Fitted}
use Rattle.session.specs.States.{program_at, memory_at}
use Rattle.session.proofs.Fits.{fits, kept}
use Rattle.session.proofs.fitted.Fitted.return_block_points.Goals as goal

module _ (f : Fitted) (i d : ℕ) where
  abbrev moved : Memory
  moved = record { bytes = f.memory.bytes; init_point = i; done_point = d; points = f.memory.points }

  back : i ≡ module_first (program_at f) block_init → d ≡ module_first (program_at f) block_done → memory_of moved ≡ block_points_back (program_at f) (memory_at f)
  back e h = λ k. record { bytes = (memory_at f).bytes; init_point = e k; done_point = h k; points = (memory_at f).points }

pub invariant_of-self : goal.invariant_of-self
invariant_of-self c =
    let f = c.args.self.now in
    let m = moved f c.start_of-self.result c.start_of-self-2.result in
    kept f.program.now m (subst (Fitting (program_at f)) (sym (back f _ _ c.start_of-self.ensures c.start_of-self-2.ensures)) (back_fits (program_at f) (memory_at f) (fits f)))

pub returns-clause-points : goal.returns-clause-points
returns-clause-points c = back c.args.self.now _ _ c.start_of-self.ensures c.start_of-self-2.ensures
