use Rattle.std.proofs.Common.{ap, ◌∙◌, subst}
use Rattle.rules.specs.Image.{ImageSound, program_of}
use Rattle.std.proofs.lemmas.Result.{err_from_is_err_and}
use Rattle.image.specs.Held.{meant}
use Rattle.verdict.proofs.Loading.{by_the_image, by_the_text, loaded}
use Rattle.verdict.proofs.place.accept.Goals as goal

pub returns-in_err-sections : goal.returns-in_err-sections
returns-in_err-sections c =
    let e = err_from_is_err_and c.from_residual.result c.from_residual.ensures.1 in
    rw e.1 (by_the_image c.args.image.now c.in_err-sections.field-0.0 e.0 c.in_err-sections.ensures e.2)

pub returns-in_err-formed : goal.returns-in_err-formed
returns-in_err-formed c =
    let i = c.in_ok-sections.ensures in
    let sound = subst ImageSound i c.in_ok-sections.sections.sound in
    let held = c.in_ok-program.ensures ∙ ap program_of i in
    let e = err_from_is_err_and c.from_residual-in_err-formed.result c.from_residual-in_err-formed.ensures.1 in
    rw e.1 (by_the_text c.args.image.now c.in_ok-program.program c.in_err-formed.field-0.0 e.0 sound held c.in_err-formed.ensures e.2)

pub returns-in_err-accepted : goal.returns-in_err-accepted
returns-in_err-accepted c =
    let i = c.in_ok-sections.ensures in
    let sound = subst ImageSound i c.in_ok-sections.sections.sound in
    let held = ap meant c.in_ok-formed.ensures ∙ c.in_ok-program.ensures ∙ ap program_of i in
    let e = err_from_is_err_and c.from_residual-in_err-accepted.result c.from_residual-in_err-accepted.ensures.1 in
    rw e.1 (by_the_text c.args.image.now c.in_ok-formed.formed.layout.program c.in_err-accepted.field-0.0 e.0 sound held c.in_err-accepted.ensures e.2)

pub returns : goal.returns
returns c =
    let i = c.in_ok-sections.ensures in
    let sound = subst ImageSound i c.in_ok-sections.sections.sound in
    let held = c.in_ok-program.ensures ∙ ap program_of i in
    loaded c.args.image.now c.in_ok-program.program c.in_ok-formed.formed c.in_ok-accepted.accepted sound held c.in_ok-formed.ensures c.in_ok-accepted.ensures
