use Rattle.std.proofs.Common.{refl, ◌∙◌}
use Rattle.session.proofs.Fits.{same_program}
use Rattle.session.proofs.Passed.{scanned}
use Rattle.session.proofs.fitted.Fitted.scan.Goals as goal

pub returns : goal.returns
returns g c =
    let t = c.take_inputs.ensures.program in
    let i = c.pass-input.ensures.program ∙ t in
    let b = c.block_part-block.ensures.program ∙ i in
    record {
      program = c.pass-main.ensures.program ∙ b;
      scans = scanned (same_program t) (same_program i) (same_program b) c.take_inputs.ensures.inputs (c.pass-input.ensures.whole refl) c.pass-input.ensures.passes c.block_part-block.ensures.part (c.pass-main.ensures.whole refl) c.pass-main.ensures.passes;
    }
