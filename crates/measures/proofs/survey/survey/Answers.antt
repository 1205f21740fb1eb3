use Rattle.std.proofs.Common.{max, List, pos, vec_items, subst}
use Rattle.std.proofs.lemmas.Result.{IfOk-weaker}
use Rattle.walk.specs.Walked.{Walked}
use Rattle.walk.specs.UnitTexts.{program_of, id_of}
use Rattle.measures.specs.Models.{steps_after, depths_after, wider, paired, beside}
use Rattle.measures.proofs.Surveys.{surveyed}
use Rattle.measures.proofs.survey.survey.Goals as goal
use Rattle.text.specs.declared.marks.Mark.{Mark}

pub returns : goal.returns
returns c =
    let u = c.args.unit.now in
    let bounds = c.args.bounds.now in
    IfOk-weaker c.walk.result _ _
    (λ t w. surveyed u bounds (vec_items t) (subst (λ (marks : List Mark). Walked (0, (pos 0, pos 0)) (beside (steps_after bounds) (depths_after marks)) (paired max wider) (program_of u) (id_of u) (vec_items t)) c.deref.ensures.value w))
    c.walk.ensures
