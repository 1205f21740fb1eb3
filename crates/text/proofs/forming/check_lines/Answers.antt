use Rattle.std.proofs.Common.{rules, tests}
use Rattle.std.proofs.lemmas.Result.{MatchResult-weaker}
use Rattle.image.specs.Held.{meant}
use Rattle.text.proofs.Breaches.{refused, past, keeps_6, rule_6, rule_7}
use Rattle.text.proofs.forming.check_lines.Goals as goal

pub returns-in_err-refuse : goal.returns-in_err-refuse
returns-in_err-refuse c =
    let p = meant c.args.program.now in
    let h = refused (rule_6 p) (keeps_6 p) c.first_unknown.result c.first_unknown.ensures (search (rules, tests)) c.in_err-refuse.field-0.0 c.in_err-refuse.ensures in
    search rules

pub returns : goal.returns
returns c =
    let p = meant c.args.program.now in
    let keeps = past (rule_6 p) (keeps_6 p) c.first_unknown.result c.first_unknown.ensures (search (rules, tests)) c.in_ok-refuse.ensures in
    MatchResult-weaker c.refuse-2.result c.refuse-2.ensures (λ _ h. past (rule_7 p) keeps c.first_bad_operand.result c.first_bad_operand.ensures (search (rules, tests)) h)
    (λ e h. refused (rule_7 p) keeps c.first_bad_operand.result c.first_bad_operand.ensures (search (rules, tests)) e h)
