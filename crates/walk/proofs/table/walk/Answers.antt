use Rattle.std.proofs.Common.{◌≡◌, ℕ, ◌+◌, ◌-◌, List, ◌++◌, length, take, drop, replicate, None, Some, vec_items, sym, refl, ap, ◌∙◌, subst, arith}
use Rattle.std.proofs.Math.Seq.{take-append_seam}
use Rattle.rules.specs.Program.{first, end}
use Rattle.walk.specs.Stages.{Staged}
use Rattle.walk.specs.UnitTexts.{program_of, id_of}
use Rattle.walk.proofs.Givens.{unit_sound, lines_few}
use Rattle.walk.proofs.Covering.{put_same}
use Rattle.walk.proofs.Walking.{before, walked}
use Rattle.walk.proofs.table.walk.Goals as goal

pub overflow_sub-unit : goal.overflow_sub-unit
overflow_sub-unit g c = let u = c.args.unit.now in omega (arith, (unit_sound u).order, u.first_is, u.end_is)

pub overflow_add-unit : goal.overflow_add-unit
overflow_add-unit g c = let u = c.args.unit.now in omega (arith, (unit_sound u).inside, u.end_is, u.formed.now.layout.program.lines.ok.0, lines_few u.formed.now)

pub merge-requires : goal.merge-requires
merge-requires g c = omega (arith, c.in_ok-table.ensures.len, c.deref_mut.ensures.len)

-- what a list of all of a Vec's items leaves when it is written back
whole : {A : Type 0} (w items : List A) (n : ℕ) → length w ≡ n → take n (w ++ drop (length w) items) ≡ w
whole w items n e = ap (λ (k : ℕ). take k (w ++ drop (length w) items)) (sym e) ∙ take-append_seam w (drop (length w) items)

pub loop-i-init : goal.loop-i-init
loop-i-init g c =
    let m = g.M.Measure in
    let u = c.args.unit.now in
    let p = program_of u in
    let e = m.effect c.args.measure.now in
    let count : u.end - u.first + 1 ≡ end p (id_of u) - first p (id_of u) + 1 = omega (arith, u.first_is, u.end_is) in
    let blank = c.deref_mut.ensures.value ∙ c.in_ok-table.ensures.items_if_clones_equal (elim [ None ↦ λ e. refl | Some v ↦ λ e. absurd e ]) ∙ ap (λ (n : ℕ). replicate n None) count in
    let same = whole c.merge.new.table (vec_items c.in_ok-table.table) c.in_ok-table.table.len (c.merge.auto.table ∙ c.deref_mut.ensures.len) in
    rw same
    (subst (λ (n : ℕ). Staged m.begins e m.joined p (id_of u) n c.merge.new.table) (sym u.first_is)
    (before p (id_of u) (unit_sound u) m.begins e (m.laws _) _ (c.merge.ensures ∙ put_same m.joined blank (omega arith) c.start.ensures)))

pub loop-i-preserved : goal.loop-i-preserved
loop-i-preserved g c =
    let same = whole c.visit.new.table (vec_items c.loop-i.table) c.loop-i.table.len (c.visit.auto.table ∙ c.deref_mut-in-loop-i.ensures.len) in
    rw same c.visit.ensures

pub returns : goal.returns
returns g c =
    let m = g.M.Measure in
    let u = c.args.unit.now in
    let p = program_of u in
    let e = m.effect c.args.measure.now in
    let last : c.loop-i.i ≡ end p (id_of u) = omega (arith, c.loop-i.auto.i-end (omega (arith, (unit_sound u).order, u.first_is, u.end_is)), u.end_is) in
    walked p (id_of u) (unit_sound u) m.begins e _ (subst (λ (n : ℕ). Staged m.begins e m.joined p (id_of u) n (vec_items c.loop-i.table)) last c.loop-i.invariant)
