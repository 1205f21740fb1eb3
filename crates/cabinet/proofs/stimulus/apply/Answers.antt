use Rattle.std.proofs.Common.{drop, sym, ap, ◌∙◌, arith}
use Rattle.std.proofs.lemmas.List.{drop_all}
use Rattle.cabinet.specs.Rows.{applied, due}
use Rattle.cabinet.proofs.Rows.{applied_more, applied_stop, due_more, due_stop}
use Rattle.cabinet.proofs.stimulus.apply.Goals as goal

pub loop-count-preserved : goal.loop-count-preserved
loop-count-preserved c =
    let so_far = c.loop-count.invariant in
    let count = due_more _ _ _ _ c.loop-count-test.true c.index-rows-count.is c.if-row-number.false in (
      ap (applied c.args.number (drop _ c.args.rows.now)) c.write.ensures.bytes ∙ sym (applied_more _ _ _ _ c.loop-count-test.true c.index-rows-count.is c.loop-count.inputs.bytes c.if-row-number.false) ∙ so_far.0,
      omega (arith, count, so_far.1),
    )

pub returns-then-row-number : goal.returns-then-row-number
returns-then-row-number c =
    let so_far = c.loop-count.invariant in
    let count = due_stop _ _ _ _ c.loop-count-test.true c.index-rows-count.is c.if-row-number.true in
    record {
      inputs = sym (applied_stop _ _ _ _ c.loop-count-test.true c.index-rows-count.is _ c.if-row-number.true) ∙ so_far.0;
      count = omega (arith, count, so_far.1);
      within = omega arith;
    }

pub returns : goal.returns
returns c =
    let so_far = c.loop-count.invariant in
    let none = drop_all _ _ c.loop-count-test.false in
    let count = ap (due c.args.number) none in
    record {
      inputs = ap (λ rows. applied c.args.number rows c.loop-count.inputs.bytes) (sym none) ∙ so_far.0;
      count = omega (arith, count, so_far.1);
      within = omega arith;
    }
