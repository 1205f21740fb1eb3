use Rattle.std.proofs.Common.{refl, arith, rules, tests}
use Rattle.text.specs.Mechanisms.{Unpaired}
use Rattle.image.specs.Held.{meant}
use Rattle.text.proofs.Searches.{finds_place}
use Rattle.text.proofs.layout.Layout.first_unpaired.Goals as goal

pub returns : goal.returns
returns c =
    let n = c.args.self.now.program.lines.ok.0 in
    finds_place _ _ _ c.find.result (Unpaired (meant c.args.self.now.program)) c.find.ensures.ran refl (λ l h. omega (arith, h.0)) (λ l q k. search (rules, tests)) (λ l q k. search (rules, tests))
