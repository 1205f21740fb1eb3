use Rattle.std.proofs.Common.{◌≡◌, ◌-◌, true, false, get_or, Some, None, sym, refl, ap, ◌∙◌, subst, inl, inr, arith}
use Rattle.std.proofs.lemmas.Bool.{both_ways}
use Rattle.rules.specs.declared.line.Line.{Line}
use Rattle.rules.specs.Op.{is_jump, is_exit, is_ex}
use Rattle.rules.specs.Program.{Own, line_at, first, after}
use Rattle.walk.specs.Walked.{OwnOrEnd}
use Rattle.walk.specs.UnitTexts.{program_of, id_of}
use Rattle.walk.proofs.Sound.{place_low, place_high}
use Rattle.walk.proofs.Givens.{unit_sound, read_at}
use Rattle.walk.proofs.Covering.{Added, put_same}
use Rattle.walk.proofs.Walking.{passing, some_own, visited}
use Rattle.walk.proofs.table.visit.Given.{Over}
use Rattle.walk.proofs.table.visit.Goals as goal
use Rattle.walk.proofs.table.visit.Goals.{In-Some, After-is_exit, then-not-is, else-not-is, then-is_jump, else-is_jump}

-- the entry of line i, where there is one
read : (g : Over) (c : In-Some g) → get_or c.args.table.now (c.args.i - first (program_of c.args.unit.now) (id_of c.args.unit.now)) None ≡ Some c.in-Some.v
read g c =
    let u = c.args.unit.now in
    read_at u _ c.args.i _ (omega (arith, c.requires.staged.long, u.first_is, u.end_is)) c.in-Some.is

own : (g : Over) (c : In-Some g) → Own (program_of c.args.unit.now) (id_of c.args.unit.now) c.args.i
own g c =
    let m = g.M.Measure in
    let u = c.args.unit.now in
    some_own (program_of u) (id_of u) (unit_sound u) m.begins (m.effect c.args.measure.now) c.args.i (omega (arith, c.requires.low, u.first_is)) (omega (arith, c.requires.within, u.end_is)) _ c.requires.staged c.in-Some.v (read g c)

pub returns-in_default : goal.returns-in_default
returns-in_default g c =
    let m = g.M.Measure in
    let u = c.args.unit.now in
    passing (program_of u) (id_of u) (unit_sound u) m.begins (m.effect c.args.measure.now) c.args.i (omega (arith, c.requires.low, u.first_is)) (omega (arith, c.requires.within, u.end_is)) _ c.requires.staged
    (read_at u _ c.args.i _ (omega (arith, c.requires.staged.long, u.first_is, u.end_is)) c.in_default.is)

pub following-requires : goal.following-requires
following-requires g c = own g (goal.at.following-requires g c).In-Some

-- the line that follows is a place of the unit
next_place : (g : Over) (c : In-Some g) → OwnOrEnd (program_of c.args.unit.now) (id_of c.args.unit.now) (after (program_of c.args.unit.now) c.args.i)
next_place g c = (unit_sound c.args.unit.now).after_stays c.args.i (own g c)

pub overflow_sub-next : goal.overflow_sub-next
overflow_sub-next g c =
    let u = c.args.unit.now in
    omega (arith, place_low (unit_sound u) _ (next_place g (goal.at.overflow_sub-next g c).In-Some), c.following.ensures, u.first_is)

pub merge-requires : goal.merge-requires
merge-requires g c =
    let u = c.args.unit.now in
    omega (arith, place_high (unit_sound u) _ (next_place g (goal.at.merge-requires g c).In-Some), (unit_sound u).order, c.following.ensures, c.requires.staged.long, u.first_is)

-- so is a jump's target
target_place : (g : Over) (c : In-Some g) (x : Line) → x ≡ line_at (program_of c.args.unit.now) c.args.i → is_jump x ≡ true → OwnOrEnd (program_of c.args.unit.now) (id_of c.args.unit.now) x.operand
target_place g c x e =
    let u = c.args.unit.now in
    subst (λ (y : Line). is_jump y ≡ true → OwnOrEnd (program_of u) (id_of u) y.operand) (sym e) ((unit_sound u).jump_stays c.args.i (own g c))

pub overflow_sub-from : goal.overflow_sub-from
overflow_sub-from g c =
    let u = c.args.unit.now in
    omega (arith, place_low (unit_sound u) _ (target_place g (goal.at.overflow_sub-from g c).In-Some _ c.line-line.ensures (sym c.is_jump.ensures ∙ c.if-is_jump.true)), c.from.ensures, u.first_is)

pub merge-requires-then-is_jump : goal.merge-requires-then-is_jump
merge-requires-then-is_jump g c =
    let u = c.args.unit.now in
    omega (arith, place_high (unit_sound u) _ (target_place g (goal.at.merge-requires-then-is_jump g c).In-Some _ c.line-line.ensures (sym c.is_jump.ensures ∙ c.if-is_jump.true)), c.from.ensures, c.if-not-is.auto.table, (unit_sound u).order, c.requires.staged.long, u.first_is)

pub merge-requires-then-is_exit : goal.merge-requires-then-is_exit
merge-requires-then-is_exit g c =
    let u = c.args.unit.now in
    omega (arith, place_high (unit_sound u) _ (next_place g (goal.at.merge-requires-then-is_exit g c).In-Some), c.following.ensures, c.if-is_jump.auto.table, c.if-not-is.auto.table, (unit_sound u).order, c.requires.staged.long, u.first_is)

-- what the line's value is, and where it goes
out_is : (g : Over) (c : After-is_exit g) → c.step-out.result ≡ g.M.Measure.effect c.args.measure.now c.args.i (line_at (program_of c.args.unit.now) c.args.i) c.in-Some.v
out_is g c = c.step-out.ensures ∙ ap (λ (y : Line). g.M.Measure.effect c.args.measure.now c.args.i y c.in-Some.v) c.line-line.ensures

next_is : (g : Over) (c : After-is_exit g) → c.following.result - c.args.unit.now.first ≡ after (program_of c.args.unit.now) c.args.i - first (program_of c.args.unit.now) (id_of c.args.unit.now)
next_is g c = omega (arith, c.following.ensures, c.args.unit.now.first_is)

went_on : (g : Over) (c : After-is_exit g) → Added g.M.Measure.joined (first (program_of c.args.unit.now) (id_of c.args.unit.now)) (is_ex (line_at (program_of c.args.unit.now) c.args.i) ≡ false) c.args.table.now (after (program_of c.args.unit.now) c.args.i) (g.M.Measure.effect c.args.measure.now c.args.i (line_at (program_of c.args.unit.now) c.args.i) c.in-Some.v) c.if-not-is.table
went_on g c =
    let kind = ap is_ex (sym c.line-line.ensures) ∙ sym c.is.ensures in
    elim c.if-not-is.branch [
      | then-not-is w ↦ inl (kind ∙ w.if-not-is.true, w.table-is ∙ w.merge.ensures ∙ put_same g.M.Measure.joined refl (next_is g c) (out_is g c))
      | else-not-is w ↦ inr ((λ e. both_ways _ e (kind ∙ w.if-not-is.false)), w.table-is)
    ]

jumped : (g : Over) (c : After-is_exit g) → Added g.M.Measure.joined (first (program_of c.args.unit.now) (id_of c.args.unit.now)) (is_jump (line_at (program_of c.args.unit.now) c.args.i) ≡ true) c.if-not-is.table (line_at (program_of c.args.unit.now) c.args.i).operand (g.M.Measure.effect c.args.measure.now c.args.i (line_at (program_of c.args.unit.now) c.args.i) c.in-Some.v) c.if-is_jump.table
jumped g c =
    let u = c.args.unit.now in
    let kind = ap is_jump (sym c.line-line.ensures) ∙ sym c.is_jump.ensures in
    elim c.if-is_jump.branch [
      | then-is_jump w ↦ inl (kind ∙ w.if-is_jump.true, w.table-is ∙ w.merge-then-is_jump.ensures ∙ put_same g.M.Measure.joined refl (omega (arith, w.from.ensures, ap (λ (y : Line). y.operand) c.line-line.ensures, u.first_is)) (out_is g c))
      | else-is_jump w ↦ inr ((λ e. both_ways _ (kind ∙ w.if-is_jump.false) e), w.table-is)
    ]

pub returns-then-is_exit : goal.returns-then-is_exit
returns-then-is_exit g c =
    let m = g.M.Measure in
    let u = c.args.unit.now in
    let at = goal.at.returns-then-is_exit g c in
    visited (program_of u) (id_of u) (unit_sound u) m.begins (m.effect c.args.measure.now) c.args.i (omega (arith, c.requires.low, u.first_is)) (omega (arith, c.requires.within, u.end_is)) _ c.requires.staged c.in-Some.v (read g at.In-Some) (m.laws _)
    (went_on g at.After-is_exit) (jumped g at.After-is_exit)
    (inl (ap is_exit (sym c.line-line.ensures) ∙ sym c.is_exit.ensures ∙ c.if-is_exit.true, c.merge-then-is_exit.ensures ∙ put_same m.joined refl (next_is g at.After-is_exit) c.start.ensures))

pub returns-else-is_exit : goal.returns-else-is_exit
returns-else-is_exit g c =
    let m = g.M.Measure in
    let u = c.args.unit.now in
    let at = goal.at.returns-else-is_exit g c in
    visited (program_of u) (id_of u) (unit_sound u) m.begins (m.effect c.args.measure.now) c.args.i (omega (arith, c.requires.low, u.first_is)) (omega (arith, c.requires.within, u.end_is)) _ c.requires.staged c.in-Some.v (read g at.In-Some) (m.laws _)
    (went_on g at.After-is_exit) (jumped g at.After-is_exit)
    (inr ((λ e. both_ways _ (ap is_exit (sym c.line-line.ensures) ∙ sym c.is_exit.ensures ∙ c.if-is_exit.false) e), refl))
