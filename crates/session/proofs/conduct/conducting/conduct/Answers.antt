use Rattle.std.proofs.Common.{vec_items, ap, ◌∙◌, arith}
use Rattle.machine.specs.Views.{program_of}
use Rattle.session.proofs.Conducting.{begun, more, Ends, unhalted_end, halted_end, guaranteed, throughout}
use Rattle.session.proofs.conduct.conducting.conduct.Goals as goal
use Rattle.session.proofs.conduct.conducting.conduct.Goals.{then-halts, else-halts}

pub loop-call-init : goal.loop-call-init
loop-call-init g c = let v = c.in-Ok.ensures in (v.2, v.3, λ x₀ s. begun _ _ _ _ _ _ v.1 s)

pub loop-call-preserved : goal.loop-call-preserved
loop-call-preserved g c =
    let i = c.loop-call.invariant in
    let n = c.push_reserved.ensures.len in
    let m = c.push_reserved.ensures.capacity in
    (omega arith, omega arith, λ x₀ s. more _ _ _ _ c.loop-call.call-index _ _ _ _ _ _ _ c.loop-call-test.true c.push_reserved.ensures.items c.into.ensures (i.2 x₀ s) c.perform-answer.ensures)

pub returns : goal.returns
returns g c =
    let law = g.met.C.Cabinet.lawful in
    let v = c.in-Ok.ensures in
    let i = c.loop-call.invariant.2 c.args.cabinet c.in_ok-running.ensures in
    let ends : Ends g.C.Cabinet.meaning (program_of c.args.program.now) c.args.cabinet c.args.calls.now c.args.halts (vec_items c.if-halts.transcript) c.if-halts.left =
    elim c.if-halts.branch [
      | then-halts w ↦ halted_end _ _ _ _ c.loop-call.call-index _ _ _ _ _ w.halt-left.result c.loop-call-test.false w.if-halts.true (ap vec_items w.transcript-is ∙ w.push_reserved-then-halts.ensures.items) w.left-is i w.halt-left.ensures
      | else-halts w ↦ unhalted_end _ _ _ _ c.loop-call.call-index _ _ _ _ _ c.loop-call-test.false w.if-halts.false (ap vec_items w.transcript-is) (w.left-is ∙ w.into_parts-left.ensures) i
    ] in
    record {
      certified = v.0;
      calls_are = ends.0;
      session = ends.1;
      throughout = λ k. throughout _ law c.args.program.now _ _ _ _ v.0 k _ _ _ ends.1;
      guaranteed = guaranteed _ law c.args.program.now c.args.cabinet _ _ _ v.0;
    }
