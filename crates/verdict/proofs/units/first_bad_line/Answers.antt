use Rattle.std.proofs.Common.{◌≡◌, ℕ, ◌+◌, length, subst, arith}
use Rattle.rules.specs.Image.{module_section}
use Rattle.image.specs.Held.{meant}
use Rattle.text.specs.Finds.{Finds}
use Rattle.text.proofs.Shape.{shaped}
use Rattle.verdict.specs.Units.{IsBadAmong}
use Rattle.verdict.proofs.Firsts.{all_units}
use Rattle.verdict.proofs.units.first_bad_line.Goals as goal

pub returns : goal.returns
returns c =
    let q = c.args.formed.now.layout.program in
    let p = meant q in
    let seven = ((shaped q).counts module_section).1 in
    let o = q.activation.ok.0 in
    let n = c.len-i-end.ensures in
    let last : c.loop-i.i ≡ length p.activation + 7 = (let k = c.loop-i.auto.i-end in let t = c.loop-i-test.false in omega arith) in
    all_units p seven c.loop-i.first (subst (λ (i : ℕ). Finds (IsBadAmong p i) c.loop-i.first) last c.loop-i.invariant)
