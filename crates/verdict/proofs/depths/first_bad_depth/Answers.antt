use Rattle.std.proofs.Common.{◌≡◌, ℕ, vec_items, sym, subst, arith, below_more}
use Rattle.text.specs.Finds.{Finds}
use Rattle.walk.specs.UnitTexts.{program_of, id_of}
use Rattle.verdict.specs.Depths.{IsBadIn}
use Rattle.verdict.proofs.Entries.{in_order, within}
use Rattle.verdict.proofs.Firsts.{finds_last}
use Rattle.verdict.proofs.depths.first_bad_depth.Goals as goal

pub loop-l-init : goal.loop-l-init
loop-l-init c k h b = let low = (within c.args.unit.now (vec_items c.in_ok-table.table) c.in_ok-table.ensures k b).0 in omega arith

pub loop-l-preserved : goal.loop-l-preserved
loop-l-preserved c = let u = c.args.unit.now in below_more (λ (k : ℕ). IsBadIn (program_of u) (id_of u) k → ⊥) _ c.loop-l.invariant c.if-is_bad_line.ensures

pub returns : goal.returns
returns c =
    let u = c.args.unit.now in
    let t = vec_items c.in_ok-table.table in
    let last : c.loop-l.l ≡ u.end = (let o = in_order u t c.in_ok-table.ensures in let e = c.loop-l.auto.l-end o in let x = c.loop-l-test.false in omega arith) in
    subst (Finds (IsBadIn (program_of u) (id_of u))) (sym c.then_some.ensures)
    (finds_last u.end c.is_bad_end.result (λ k h. c.loop-l.invariant k (omega arith)) c.is_bad_end.ensures (λ k b. (within u t c.in_ok-table.ensures k b).1))
