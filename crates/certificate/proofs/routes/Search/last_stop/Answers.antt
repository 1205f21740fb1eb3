use Rattle.std.proofs.Common.{ℕ, vec_items, arith, rules}
use Rattle.std.proofs.lemmas.Iterator.{first_from_Range}
use Rattle.walk.specs.UnitTexts.{program_of, id_of}
use Rattle.walk.proofs.Givens.{unit_sound}
use Rattle.certificate.specs.Longest.{Stops}
use Rattle.certificate.proofs.Back.{found}
use Rattle.certificate.proofs.routes.Search.last_stop.Goals as goal

pub returns : goal.returns
returns c =
    let s = c.args.self.now in
    let u = s.unit in
    let P = λ (k : ℕ). Stops (program_of u) (id_of u) s.steps.bounds.now (vec_items s.table) c.args.v k in
    found u.first u.end c.find.result
    (first_from_Range _ _ _ c.find.result P (λ (k : ℕ). P k → ⊥) c.find.ensures.ran (λ x q k. search rules) (λ x q k. search rules))
    (λ k x. (omega (arith, (unit_sound u).low k x.0.own, u.first_is), omega (arith, (unit_sound u).high k x.0.own, u.end_is)))
