use Rattle.measures.proofs.Surveys.{bounded}
use Rattle.measures.proofs.survey.unit_bound.Goals as goal

pub returns : goal.returns
returns c = bounded c.args.unit.now c.args.bounds.now c.total.result c.requires c.total.ensures
