use Rattle.std.proofs.Common.{◌+◌, ◌≤◌, length, refl, ap, ◌∙◌, arith, rules}
use Rattle.rules.specs.Named.{module_number}
use Rattle.rules.proofs.Units.{module_number-below}
use Rattle.rules.specs.declared.unit.UnitId.TheVariants.{Module}
use Rattle.rules.specs.Image.{line_section}
use Rattle.rules.specs.Run.{enter, Runs, here}
use Rattle.machine.specs.Views.{program_of, memory_of}
use Rattle.machine.specs.Standing.{config_of}
use Rattle.text.proofs.Shape.{shaped}
use Rattle.verdict.proofs.Kept.{accepted}
use Rattle.theory.proofs.Stands.{Stands}
use Rattle.machine.proofs.Executions.{steps_bounded, stands}
use Rattle.machine.proofs.Passing.{one_more, is_ready, whole_after}
use Rattle.machine.proofs.pass.pass.Goals as goal

pub loop-place-init : goal.loop-place-init
loop-place-init c = record { same_program = ap program_of c.enter-place.ensures.same.same_program; same_memory = refl; runs = rw c.enter-place.ensures.holds here }

pub execute-place-requires : goal.execute-place-requires
execute-place-requires c =
    let a = c.args.program.now in
    let w = c.loop-place.invariant in
    is_ready (program_of a) c.loop-place.run w.same_program c.loop-place.place c.in-At.line c.in-At.is c.loop-place.steps (module_number c.args.«module») (accepted a) (module_number-below c.args.«module») (memory_of c.args.memory.now) c.requires w.runs

-- the run after a turn
again : (c : goal.After-execute-place) → Runs (program_of c.args.program.now) (enter (program_of c.args.program.now) (Module (module_number c.args.«module»)) (memory_of c.args.memory.now)) (c.loop-place.steps + 1) (config_of c.execute-place.result c.execute-place.new.self)
again c =
    let w = c.loop-place.invariant in
    one_more (program_of c.args.program.now) c.loop-place.run w.same_program c.loop-place.place c.in-At.line c.in-At.is c.loop-place.steps _ _ w.runs c.execute-place.ensures.step

-- it has no more steps than the program has lines
within : (c : goal.After-execute-place) → c.loop-place.steps + 1 ≤ length (program_of c.args.program.now).lines
within c =
    let a = c.args.program.now in
    steps_bounded (program_of a) (accepted a) (module_number c.args.«module») (module_number-below c.args.«module») (memory_of c.args.memory.now) c.requires (c.loop-place.steps + 1) _ (again c)

pub overflow_add-steps : goal.overflow_add-steps
overflow_add-steps c =
    let h = within c in
    let many : length (program_of c.args.program.now).lines ≤ 2048 = ((shaped c.args.program.now.formed.layout.program).counts line_section).1 in
    record { fits = omega arith }

pub loop-place-smaller : goal.loop-place-smaller
loop-place-smaller c = let h = within c in omega arith

pub loop-place-preserved : goal.loop-place-preserved
loop-place-preserved c =
    let w = c.loop-place.invariant in
    let same = c.execute-place.ensures.same in
    record { same_program = ap program_of same.same_program ∙ w.same_program; same_memory = same.same_memory ∙ w.same_memory; runs = again c }

-- where the run stands when it is over
over : (c : goal.After-eq) → Stands (program_of c.args.program.now) (module_number c.args.«module») c.loop-place.steps (config_of c.loop-place.place c.loop-place.run)
over c =
    let a = c.args.program.now in
    stands (program_of a) (accepted a) (module_number c.args.«module») (module_number-below c.args.«module») (memory_of c.args.memory.now) c.requires c.loop-place.steps _ c.loop-place.invariant.runs

pub returns-clause-fitting : goal.returns-clause-fitting
returns-clause-fitting c = let fit = (over c).fitting in search rules

pub returns-clause-bounded : goal.returns-clause-bounded
returns-clause-bounded c =
    let a = c.args.program.now in
    let n = steps_bounded (program_of a) (accepted a) (module_number c.args.«module») (module_number-below c.args.«module») (memory_of c.args.memory.now) c.requires c.loop-place.steps _ c.loop-place.invariant.runs in
    omega (arith, a.formed.layout.program.lines.ok.0)

pub returns-clause-whole : goal.returns-clause-whole
returns-clause-whole c =
    λ h. let whole = whole_after (program_of c.args.program.now) (module_number c.args.«module») c.loop-place.steps c.loop-place.run c.loop-place.place c.in_default.field-0 c.in_default.is (over c) h in search rules
