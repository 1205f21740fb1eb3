use Rattle.std.proofs.Common.{refl, ap, ◌∙◌}
use Rattle.rules.specs.Program.{Program}
use Rattle.rules.specs.Session.{clears, block_points_back}
use Rattle.session.specs.States.{memory_at}
use Rattle.session.proofs.Fits.{same_program}
use Rattle.session.proofs.Passed.{to_end}
use Rattle.session.proofs.running.Running.clear.Goals as goal

pub returns : goal.returns
returns g c =
    let m = memory_at c.pass.new.self in
    record {
      same_program = same_program (c.return_block_points.ensures.program ∙ c.pass.ensures.program);
      comes = clears (record {
        steps = c.pass.result.steps;
        cleared_memory = m;
        clear_pass = to_end (c.pass.ensures.whole refl) c.pass.ensures.passes;
        memory_is = c.return_block_points.ensures.points ∙ ap (λ (q : Program). block_points_back q m) (same_program c.pass.ensures.program);
        phase_zero = refl;
      });
      cabinet_after = c.send_outputs.ensures;
    }
