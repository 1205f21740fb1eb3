use Rattle.std.proofs.Common.{ℕ, ◌+◌, List, get_or, sym, subst, arith, lit<}
use Rattle.rules.specs.declared.unit.UnitId.TheVariants.{Mechanism}
use Rattle.rules.specs.Route.{Takes, ScanTakes, Greatest}
use Rattle.image.specs.Held.{meant}
use Rattle.certificate.proofs.Scanning.{few_steps, scan_greatest}
use Rattle.certificate.proofs.bounds.scan_bound.Goals as goal

pub bound_of-requires-4-clause-bounded : goal.bound_of-requires-4-clause-bounded
bound_of-requires-4-clause-bounded c e k h =
    subst (λ (xs : List ℕ). Greatest (Takes (meant c.args.formed.now.layout.program) (Mechanism k)) (get_or xs k 0)) (sym c.deref-4.ensures.value) (c.in_ok-bounds.ensures.each k h)

pub overflow_add-result : goal.overflow_add-result
overflow_add-result c =
    let f = c.args.formed.now in
    let a = few_steps f 0 _ (lit< tt) c.in_ok-input.ensures in
    let b = few_steps f 1 _ (lit< tt) c.in_ok-block_init.ensures in
    let d = few_steps f 2 _ (lit< tt) c.in_ok-block_done.ensures in
    omega (arith, c.max.ensures)

pub overflow_add-result-2 : goal.overflow_add-result-2
overflow_add-result-2 c =
    let f = c.args.formed.now in
    let a = few_steps f 0 _ (lit< tt) c.in_ok-input.ensures in
    let b = few_steps f 1 _ (lit< tt) c.in_ok-block_init.ensures in
    let d = few_steps f 2 _ (lit< tt) c.in_ok-block_done.ensures in
    let m = few_steps f 3 _ (lit< tt) c.in_ok-main.ensures in
    omega (arith, c.max.ensures)

pub returns : goal.returns
returns c =
    let p = meant c.args.formed.now.layout.program in
    subst (λ (n : ℕ). Greatest (ScanTakes p) (c.in_ok-input.input + n + c.in_ok-main.main)) (sym c.max.ensures)
    (scan_greatest p c.in_ok-input.ensures c.in_ok-block_init.ensures c.in_ok-block_done.ensures c.in_ok-main.ensures)
