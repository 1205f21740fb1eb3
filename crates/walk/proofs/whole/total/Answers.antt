use Rattle.std.proofs.Common.{◌≡◌, ℕ, ◌-◌, ◌<◌, length, sym, ◌∙◌, subst, arith}
use Rattle.rules.specs.Program.{end}
use Rattle.walk.specs.Joins.{JoinOf}
use Rattle.walk.specs.Stages.{Stopped}
use Rattle.walk.specs.UnitTexts.{program_of, id_of}
use Rattle.walk.proofs.Givens.{unit_sound, read_at_end}
use Rattle.walk.proofs.Totals.{end_some, from_end, in_total}
use Rattle.walk.proofs.whole.total.Goals as goal

pub overflow_sub-unit : goal.overflow_sub-unit
overflow_sub-unit g c = let u = c.args.unit.now in omega (arith, (unit_sound u).order, u.first_is, u.end_is)

pub bounds-table-unit : goal.bounds-table-unit
bounds-table-unit g c = let u = c.args.unit.now in omega (arith, (unit_sound u).order, u.first_is, u.end_is, c.requires.long)

pub unwrap-best-requires : goal.unwrap-best-requires
unwrap-best-requires g c =
    let m = g.M.Measure in
    let u = c.args.unit.now in
    let room : u.end - u.first < length c.args.table.now = omega (arith, (unit_sound u).order, u.first_is, u.end_is, c.requires.long) in
    end_some (program_of u) (id_of u) (unit_sound u) m.begins (m.effect c.args.measure.now) _ c.requires _ (read_at_end u _ _ room (sym c.index-table-unit.is))

pub loop-i-init : goal.loop-i-init
loop-i-init g c =
    let m = g.M.Measure in
    let u = c.args.unit.now in
    let p = program_of u in
    let e = m.effect c.args.measure.now in
    let room : u.end - u.first < length c.args.table.now = omega (arith, (unit_sound u).order, u.first_is, u.end_is, c.requires.long) in
    subst (λ (n : ℕ). JoinOf m.joined (Stopped m.begins e p (id_of u) n) c.unwrap-best.result) (sym u.first_is)
    (from_end p (id_of u) (unit_sound u) m.begins e _ c.requires c.unwrap-best.result (read_at_end u _ _ room (sym c.index-table-unit.is ∙ c.unwrap-best.ensures)))

pub returns : goal.returns
returns g c =
    let m = g.M.Measure in
    let u = c.args.unit.now in
    let p = program_of u in
    let e = m.effect c.args.measure.now in
    let last : c.loop-i.i ≡ end p (id_of u) = omega (arith, c.loop-i.auto.i-end (omega (arith, (unit_sound u).order, u.first_is, u.end_is)), u.end_is) in
    in_total p (id_of u) (unit_sound u) m.begins e _ c.requires _
    (subst (λ (n : ℕ). JoinOf m.joined (Stopped m.begins e p (id_of u) n) c.loop-i.best) last c.loop-i.invariant)
