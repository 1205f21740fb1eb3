use Rattle.std.proofs.Common.{rules, tests}
use Rattle.std.proofs.lemmas.Result.{MatchResult-weaker}
use Rattle.image.specs.Held.{meant}
use Rattle.text.specs.Verdicts.{Keeps}
use Rattle.text.proofs.Breaches.{refused, past, rule_8, rule_9, rule_10, rule_11}
use Rattle.text.proofs.forming.check_layout.Goals as goal
use Rattle.text.proofs.forming.check_layout.Goals.{In_ok-refuse, In_ok-refuse-2, In_ok-refuse-3}

-- what is kept past each rule

keeps_9 : (c : In_ok-refuse) → Keeps (meant c.args.layout.now.program) 9
keeps_9 c = past (rule_8 _) c.args.layout.now.keeps c.first_bad_mechanism.result c.first_bad_mechanism.ensures (search (rules, tests)) c.in_ok-refuse.ensures

keeps_10 : (c : In_ok-refuse-2) → Keeps (meant c.args.layout.now.program) 9 → Keeps (meant c.args.layout.now.program) 10
keeps_10 c k = past (rule_9 _) k c.first_bad_jump.result c.first_bad_jump.ensures (search (rules, tests)) c.in_ok-refuse-2.ensures

keeps_11 : (c : In_ok-refuse-3) → Keeps (meant c.args.layout.now.program) 10 → Keeps (meant c.args.layout.now.program) 11
keeps_11 c k = past (rule_10 _) k c.first_bad_exit.result c.first_bad_exit.ensures (search (rules, tests)) c.in_ok-refuse-3.ensures

pub returns-in_err-refuse : goal.returns-in_err-refuse
returns-in_err-refuse c =
    let h = refused (rule_8 (meant c.args.layout.now.program)) c.args.layout.now.keeps c.first_bad_mechanism.result c.first_bad_mechanism.ensures (search (rules, tests)) c.in_err-refuse.field-0.0 c.in_err-refuse.ensures in
    search rules

pub returns-in_err-refuse-2 : goal.returns-in_err-refuse-2
returns-in_err-refuse-2 c =
    let k = keeps_9 (goal.at.returns-in_err-refuse-2 c).In_ok-refuse in
    let h = refused (rule_9 (meant c.args.layout.now.program)) k c.first_bad_jump.result c.first_bad_jump.ensures (search (rules, tests)) c.in_err-refuse-2.field-0.0 c.in_err-refuse-2.ensures in
    search rules

pub returns-in_err-refuse-3 : goal.returns-in_err-refuse-3
returns-in_err-refuse-3 c =
    let g = goal.at.returns-in_err-refuse-3 c in
    let k = keeps_10 g.In_ok-refuse-2 (keeps_9 g.In_ok-refuse) in
    let h = refused (rule_10 (meant c.args.layout.now.program)) k c.first_bad_exit.result c.first_bad_exit.ensures (search (rules, tests)) c.in_err-refuse-3.field-0.0 c.in_err-refuse-3.ensures in
    search rules

pub returns : goal.returns
returns c =
    let p = meant c.args.layout.now.program in
    let g = goal.at.returns c in
    let k = keeps_11 g.In_ok-refuse-3 (keeps_10 g.In_ok-refuse-2 (keeps_9 g.In_ok-refuse)) in
    MatchResult-weaker c.refuse-4.result c.refuse-4.ensures (λ _ h. past (rule_11 p) k c.first_bad_init.result c.first_bad_init.ensures (search (rules, tests)) h)
    (λ e h. refused (rule_11 p) k c.first_bad_init.result c.first_bad_init.ensures (search (rules, tests)) e h)
