use Rattle.std.proofs.Common.{ℕ, ◌+◌, get_or, vec_items, ap, ◌∙◌, subst, arith}
use Rattle.rules.proofs.Units.{module_number-nth}
use Rattle.image.specs.Held.{meant}
use Rattle.text.specs.Marks.{Marked}
use Rattle.text.proofs.marks.marking.marks_of.Goals as goal

pub loop-module-preserved : goal.loop-module-preserved
loop-module-preserved c =
    let p = meant c.args.program.now in
    let i = c.loop-module.module-index in
    let n = c.from-n.ensures ∙ module_number-nth i c.loop-module-test.true in
    let s = c.args.starts.now in
    subst (λ (k : ℕ). Marked p (vec_items c.mark_module.new.marks) k) (ap (λ (j : ℕ). get_or s (j + 1) 0) n ∙ c.requires.are (i + 1) (let t = c.loop-module-test.true in omega arith)) c.in_ok-mark_module.ensures
