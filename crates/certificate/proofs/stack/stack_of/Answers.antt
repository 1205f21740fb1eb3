use Rattle.std.proofs.Common.{ℕ, subst, arith, below_more}
use Rattle.rules.specs.declared.unit.UnitId.TheVariants.{Module, Mechanism}
use Rattle.rules.specs.Image.{module_section}
use Rattle.rules.proofs.Units.{module_number-nth}
use Rattle.image.specs.Held.{meant}
use Rattle.text.proofs.Shape.{shaped}
use Rattle.certificate.specs.Deepest.{Within}
use Rattle.certificate.proofs.Depths.{depth_none, within_more}
use Rattle.certificate.proofs.stack.stack_of.Goals as goal

pub loop-module-init : goal.loop-module-init
loop-module-init c = (depth_none _ (shaped c.args.formed.now.layout.program), λ j h. absurd (omega arith))

pub loop-module-preserved : goal.loop-module-preserved
loop-module-preserved c =
    let p = meant c.args.formed.now.layout.program in
    let inv = c.loop-module.invariant in
    let d = c.in_ok-stack.ensures in
    let n = c.in_ok-stack.stack in
    let here = subst (λ (m : ℕ). Within p n (Module m)) (module_number-nth c.loop-module.module-index c.loop-module-test.true) d.within in
    (d.attained inv.0, below_more (λ (j : ℕ). Within p n (Module j)) _ (λ j h. within_more {p = p} {u = Module j} d.no_less (inv.1 j h)) here)

pub loop-k-init : goal.loop-k-init
loop-k-init c =
    let inv = c.loop-module.invariant in
    let seven = ((shaped c.args.formed.now.layout.program).counts module_section).1 in
    (inv.0, (λ j h. inv.1 j (let t = c.loop-module-test.false in omega arith)), λ j h. absurd (omega arith))

pub loop-k-preserved : goal.loop-k-preserved
loop-k-preserved c =
    let p = meant c.args.formed.now.layout.program in
    let inv = c.loop-k.invariant in
    let d = c.in_ok-stack-2.ensures in
    let n = c.in_ok-stack-2.stack in
    (d.attained inv.0, (λ j h. within_more {p = p} {u = Module j} d.no_less (inv.1 j h)), below_more (λ (j : ℕ). Within p n (Mechanism j)) _ (λ j h. within_more {p = p} {u = Mechanism j} d.no_less (inv.2 j h)) d.within)
