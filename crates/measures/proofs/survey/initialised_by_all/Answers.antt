use Rattle.std.proofs.Common.{◌-◌, ◌<◌, length, vec_items, sym, ◌∙◌, arith}
use Rattle.rules.specs.Program.{end}
use Rattle.rules.specs.Image.{mechanism_section}
use Rattle.walk.specs.UnitTexts.{program_of, id_of}
use Rattle.text.proofs.Shape.{formed_by_rules}
use Rattle.walk.proofs.Givens.{unit_sound, read_at_end}
use Rattle.walk.proofs.Totals.{end_some, entry_joins}
use Rattle.measures.specs.Models.{set_of, set_after}
use Rattle.measures.proofs.Sets.{by_all}
use Rattle.measures.proofs.survey.initialised_by_all.Goals as goal

pub overflow_sub-unit : goal.overflow_sub-unit
overflow_sub-unit c = let u = c.args.unit.now in omega (arith, (unit_sound u).order, u.first_is, u.end_is)

pub index-requires : goal.index-requires
index-requires c = let u = c.args.unit.now in omega (arith, (unit_sound u).order, u.first_is, u.end_is, c.in_ok-table.ensures.long, c.in_ok-table.table.ok.0)

pub unwrap-requires : goal.unwrap-requires
unwrap-requires c =
    let u = c.args.unit.now in
    let t = vec_items c.in_ok-table.table in
    let room : u.end - u.first < length t = omega (arith, (unit_sound u).order, u.first_is, u.end_is, c.in_ok-table.ensures.long) in
    end_some (program_of u) (id_of u) (unit_sound u) (set_of 0) set_after t c.in_ok-table.ensures _ (read_at_end u t _ room (sym c.index.ensures))

pub returns : goal.returns
returns c =
    let u = c.args.unit.now in
    let p = program_of u in
    let t = vec_items c.in_ok-table.table in
    let room : u.end - u.first < length t = omega (arith, (unit_sound u).order, u.first_is, u.end_is, c.in_ok-table.ensures.long) in
    by_all p (id_of u) ((formed_by_rules u.formed.now).shaped.counts mechanism_section).1 c.unwrap.result
    (entry_joins p (id_of u) (unit_sound u) (set_of 0) set_after t c.in_ok-table.ensures (end p (id_of u)) c.unwrap.result (unit_sound u).order (read_at_end u t _ room (sym c.index.ensures ∙ c.unwrap.ensures)))
