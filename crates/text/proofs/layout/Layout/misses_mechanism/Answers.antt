use Rattle.std.proofs.Common.{◌≡◌, vec_items, arith, rules, tests}
use Rattle.std.proofs.lemmas.Iterator.{YieldsList-from_slice, cases_from_any}
use Rattle.image.specs.Held.{meant}
use Rattle.text.specs.declared.bracket.Bracket.{Bracket}
use Rattle.text.proofs.LeftOver.{missing}
use Rattle.text.proofs.layout.Layout.misses_mechanism.Goals as goal

pub returns : goal.returns
returns c =
    let s = c.args.self.now in
    let n = c.len-count.result in
    let xs = vec_items s.brackets in
    let a = s.brackets.ok.0 in
    let b = s.program.activation.ok.0 in
    let d = s.program.lines.ok.0 in
    let m = s.brackets_count in
    missing (meant s.program) xs n c.any.result (omega arith) (omega arith) s.begins_are
    (cases_from_any _ _ c.any.result (λ (b : Bracket). b.begin ≡ n) (λ (b : Bracket). b.begin ≡ n → ⊥) c.any.ensures.ran (YieldsList-from_slice xs cc) (λ x q k. search (rules, tests)) (λ x q k. search (rules, tests)))
