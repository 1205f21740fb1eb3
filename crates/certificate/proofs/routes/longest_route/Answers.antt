use Rattle.std.proofs.Common.{◌≡◌, reverse, vec_items, sym, ap, ◌∙◌, subst}
use mathlib.Core.List.{reverse-reverse}
use Rattle.rules.specs.Route.{Steps}
use Rattle.text.proofs.Shape.{formed_by_rules}
use Rattle.walk.specs.UnitTexts.{program_of, id_of}
use Rattle.walk.proofs.Givens.{unit_real, unit_sound}
use Rattle.measures.proofs.Longest.{longest_route, takes_at_most}
use Rattle.certificate.specs.Longest.{Longest}
use Rattle.certificate.proofs.Back.{begun}
use Rattle.certificate.proofs.routes.longest_route.Goals as goal

pub returns : goal.returns
returns c =
    let u = c.args.unit.now in
    let p = program_of u in
    let bounds = c.args.bounds.now in
    let f = formed_by_rules u.formed.now in
    let lines = vec_items c.in_ok-lines.lines in
    let traced = c.in_ok-lines.ensures in
    let n = c.total-best.result in
    let found = begun p (id_of u) (unit_sound u) bounds (vec_items c.in_ok-table.table) c.in_ok-table.ensures n traced.from lines traced.begins traced.goes_on in
    let back : lines ≡ reverse (vec_items c.reverse.new.self) = sym (ap reverse c.reverse.ensures.items ∙ reverse-reverse lines) in
    subst (Longest p (id_of u)) back
    (record {
      steps = n;
      route = found.0;
      takes = subst (Steps p lines) found.1 (longest_route p f (id_of u) (unit_real u) bounds c.requires found.0).attained;
      most = takes_at_most p f (id_of u) (unit_real u) bounds c.requires n c.total-best.ensures;
    })
