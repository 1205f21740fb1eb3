use Rattle.std.proofs.Common.{vec_items, rules, tests}
use Rattle.std.proofs.lemmas.Iterator.{YieldsList-from_slice, IsFirst-from_position}
use Rattle.rules.specs.Op.{decode}
use Rattle.rules.specs.Form.{Reaches}
use Rattle.image.specs.Held.{meant}
use Rattle.text.proofs.Searches.{finds_line}
use Rattle.text.proofs.lines.first_bad_operand.Goals as goal

pub returns : goal.returns
returns c =
    let p = meant c.args.program.now in
    let xs = vec_items c.args.program.now.lines in
    finds_line (λ x. Reaches p x (decode x) → ⊥) (λ x. Reaches p x (decode x)) (λ x y n. n y) xs c.position.result
    (IsFirst-from_position _ _ c.position.result (λ x. Reaches p x (decode x) → ⊥) (λ x. Reaches p x (decode x)) c.position.ensures.ran (YieldsList-from_slice xs cc) (λ x q k. search (rules, tests)) (λ x q k. search (rules, tests)))
