use Rattle.std.proofs.Common.{ℕ, min, Some, sym, ap, ◌∙◌, subst}
use Rattle.std.proofs.lemmas.Bool.{both_ways}
use Rattle.rules.specs.Form.{IsBadMechanism}
use Rattle.image.specs.Held.{meant}
use Rattle.text.specs.Finds.{Finds}
use Rattle.text.proofs.LeftOver.{none_left, one_left}
use Rattle.text.proofs.layout.Layout.first_bad_mechanism.Goals as goal

pub returns-then-not-is_left_over : goal.returns-then-not-is_left_over
returns-then-not-is_left_over c =
    none_left (meant c.args.self.now.program) c.first_unpaired-unpaired.result c.first_unpaired-unpaired.ensures (λ h. both_ways c.is_left_over.result c.if-not-is_left_over.true (c.is_left_over.ensures.1 h))

pub returns : goal.returns
returns c =
    let p = meant c.args.self.now.program in
    let e = c.end_of-end.result in
    subst (λ (i : ℕ). Finds (IsBadMechanism p) (Some i)) (sym (c.min.ensures ∙ ap (λ (i : ℕ). min i e) c.unwrap_or.ensures))
    (one_left p c.first_unpaired-unpaired.result e c.end_of-end.ensures c.first_unpaired-unpaired.ensures (c.is_left_over.ensures.0 c.if-not-is_left_over.false))
