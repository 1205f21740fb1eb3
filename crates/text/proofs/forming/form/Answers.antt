use Rattle.std.proofs.Common.{arith}
use Rattle.text.proofs.forming.form.Goals as goal

pub invariant_of-result : goal.invariant_of-result
invariant_of-result c = record { unbroken = λ r l h b. c.in_ok-check_layout.ensures r l (omega arith) b }
