use Rattle.std.proofs.Common.{◌≡◌, ◌+◌, sym, ap, ◌∙◌, subst, arith}
use Rattle.std.proofs.lemmas.Bool.{both_ways}
use Rattle.rules.specs.declared.line.Line.{Line}
use Rattle.rules.specs.Op.{is_exit}
use Rattle.rules.specs.Program.{line_at}
use Rattle.walk.specs.Joins.{JoinOf}
use Rattle.walk.specs.Stages.{Stopped}
use Rattle.walk.specs.UnitTexts.{program_of, id_of}
use Rattle.walk.proofs.Givens.{unit_sound, read_at}
use Rattle.walk.proofs.Totals.{keeps, nobody, takes}
use Rattle.walk.proofs.whole.finish.Goals as goal

pub returns-in_default : goal.returns-in_default
returns-in_default g c =
    let m = g.M.Measure in
    let u = c.args.unit.now in
    keeps (program_of u) (id_of u) (unit_sound u) m.begins (m.effect c.args.measure.now) _ c.requires.walked c.args.i _
    (λ path a e. both_ways _ (sym c.is_exit.ensures ∙ c.if-is_exit.false) (ap is_exit c.line-line.ensures ∙ e))
    c.requires.so_far

pub returns-in_default-2 : goal.returns-in_default-2
returns-in_default-2 g c =
    let m = g.M.Measure in
    let u = c.args.unit.now in
    let read = read_at u _ c.args.i _ (omega (arith, c.requires.walked.long, u.first_is, u.end_is)) (sym c.index-table-i.is ∙ c.in_default.is) in
    keeps (program_of u) (id_of u) (unit_sound u) m.begins (m.effect c.args.measure.now) _ c.requires.walked c.args.i _
    (λ path a _. nobody (program_of u) (id_of u) (unit_sound u) m.begins (m.effect c.args.measure.now) _ c.requires.walked c.args.i read path a)
    c.requires.so_far

pub returns-in-Some : goal.returns-in-Some
returns-in-Some g c =
    let m = g.M.Measure in
    let u = c.args.unit.now in
    let p = program_of u in
    let e = m.effect c.args.measure.now in
    let read = read_at u _ c.args.i _ (omega (arith, c.requires.walked.long, u.first_is, u.end_is)) (sym c.index-table-i.is ∙ c.in-Some.is) in
    let out : c.step.result ≡ e c.args.i (line_at p c.args.i) c.in-Some.v = c.step.ensures ∙ ap (λ (y : Line). e c.args.i y c.in-Some.v) c.line-line.ensures in
    subst (λ v. JoinOf m.joined (Stopped m.begins e p (id_of u) (c.args.i + 1)) v) (sym (c.join.ensures ∙ ap (m.joined c.args.best) out))
    (takes p (id_of u) (unit_sound u) m.begins e _ c.requires.walked (m.laws _) c.args.i _ c.in-Some.v (omega (arith, c.requires.low, u.first_is)) (omega (arith, c.requires.within, u.end_is))
    (ap is_exit (sym c.line-line.ensures) ∙ sym c.is_exit.ensures ∙ c.if-is_exit.true) read c.requires.so_far)
