use Rattle.std.proofs.Common.{◌≡◌, None, vec_items, rules, tests}
use Rattle.std.proofs.lemmas.Iterator.{YieldsList-from_slice, IsFirst-from_position}
use Rattle.rules.specs.Op.{decode}
use Rattle.text.proofs.Searches.{finds_line}
use Rattle.text.proofs.lines.first_unknown.Goals as goal

pub returns : goal.returns
returns c =
    let xs = vec_items c.args.program.now.lines in
    finds_line (λ x. decode x ≡ None) (λ x. decode x ≡ None → ⊥) (λ x n y. n y) xs c.position.result
    (IsFirst-from_position _ _ c.position.result (λ x. decode x ≡ None) (λ x. decode x ≡ None → ⊥) c.position.ensures.ran (YieldsList-from_slice xs cc) (λ x q k. search (rules, tests)) (λ x q k. search (rules, tests)))
