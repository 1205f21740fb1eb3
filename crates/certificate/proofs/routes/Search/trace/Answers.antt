use Rattle.std.proofs.Common.{ℕ, ◌+◌, ◌<◌, List, [], Option, vec_items, sym, subst}
use Rattle.std.proofs.lemmas.Option.{MatchOption-at_none, MatchOption-at_some}
use Rattle.std.specs.Option.{option_map_or}
use Rattle.walk.specs.UnitTexts.{program_of, id_of}
use Rattle.walk.proofs.Givens.{unit_sound}
use Rattle.certificate.specs.Longest.{Precedes}
use Rattle.certificate.proofs.Back.{Ahead, from_place, nearer, newest, newest_stop}
use Rattle.certificate.proofs.routes.Search.trace.Goals as goal
use Rattle.certificate.proofs.routes.Search.trace.Goals.{in-Some, in-None}

pub loop-next-init : goal.loop-next-init
loop-next-init c =
    let s = c.args.self.now in
    let u = s.unit in
    let p = program_of u in
    let bounds = s.steps.bounds.now in
    let t = vec_items s.table in
    subst (λ (z : List ℕ). Ahead p (id_of u) (unit_sound u) bounds t c.args.n z c.match-last_stop.next) (sym c.new-lines.ensures.items)
    (elim c.match-last_stop.branch [
      | in-Some w ↦ subst (Ahead p (id_of u) (unit_sound u) bounds t c.args.n []) (sym w.next-is) (newest_stop p (id_of u) (unit_sound u) bounds t c.args.n w.in-Some.l (MatchOption-at_some _ _ _ w.in-Some.is c.last_stop.ensures))
      | in-None w ↦ subst (Ahead p (id_of u) (unit_sound u) bounds t c.args.n []) (sym w.next-is) (newest p (id_of u) (unit_sound u) bounds t s.walked c.args.n w.previous-next.result c.requires (MatchOption-at_none _ _ w.in-None.is c.last_stop.ensures) (subst (λ (m : ℕ). Precedes p (id_of u) bounds t m w.previous-next.result) u.end_is w.previous-next.ensures))
    ])

pub loop-next-preserved : goal.loop-next-preserved
loop-next-preserved c =
    let s = c.args.self.now in
    let u = s.unit in
    let p = program_of u in
    let bounds = s.steps.bounds.now in
    let t = vec_items s.table in
    let l = c.in-Some-next.l in
    let h = subst (Ahead p (id_of u) (unit_sound u) bounds t c.args.n (vec_items c.loop-next.lines)) c.in-Some-next.is c.loop-next.invariant in
    subst (λ (z : List ℕ). Ahead p (id_of u) (unit_sound u) bounds t c.args.n z c.previous-next-in-Some-next.result) (sym c.in_ok-push.ensures.items)
    (from_place p (id_of u) (unit_sound u) bounds t c.args.n l h.0 _ c.previous-next-in-Some-next.result h.1 h.2 c.previous-next-in-Some-next.ensures)

pub loop-next-smaller : goal.loop-next-smaller
loop-next-smaller c =
    let s = c.args.self.now in
    let u = s.unit in
    subst (λ (o : Option ℕ). option_map_or (λ k. k + 1) c.previous-next-in-Some-next.result 0 < option_map_or (λ k. k + 1) o 0) (sym c.in-Some-next.is)
    (nearer (program_of u) (id_of u) (unit_sound u) s.steps.bounds.now (vec_items s.table) c.in-Some-next.l c.previous-next-in-Some-next.result c.previous-next-in-Some-next.ensures)
