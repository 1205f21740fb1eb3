use Rattle.std.proofs.Common.{◌≡◌, ◌-◌, ◌<◌, length, Some, vec_items, sym, ap, ◌∙◌, arith}
use Rattle.rules.specs.declared.line.Line.{Line}
use Rattle.walk.specs.UnitTexts.{program_of, id_of}
use Rattle.walk.proofs.Givens.{unit_sound, read_at}
use Rattle.measures.specs.Models.{steps_after}
use Rattle.certificate.specs.Longest.{entry_of}
use Rattle.certificate.proofs.Back.{long, own_entry}
use Rattle.certificate.proofs.routes.Search.past.Goals as goal

pub returns : goal.returns
returns c =
    let s = c.args.self.now in
    let u = s.unit in
    let p = program_of u in
    let l = c.args.l in
    let v = c.in_ok-v.v in
    let bounds = s.steps.bounds.now in
    let t = vec_items s.table in
    let room : l - u.first < length t = omega (arith, long p (id_of u) (unit_sound u) bounds t s.walked, u.first_is, u.end_is) in
    let read : entry_of p (id_of u) t l ≡ Some v = read_at u t l _ room (sym c.index.ensures ∙ c.in_ok-v.was) in
    record {
      own = own_entry p (id_of u) (unit_sound u) bounds t s.walked l v (omega (arith, u.first_is)) (omega (arith, u.end_is)) read;
      value = v;
      read = read;
      adds = sym (c.step.ensures ∙ ap (λ (y : Line). steps_after bounds l y v) c.line.ensures);
    }
