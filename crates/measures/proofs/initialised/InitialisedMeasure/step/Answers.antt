use Rattle.std.proofs.Common.{◌≡◌, false, sym, ap, ◌∙◌, bit_or}
use Rattle.std.specs.Int.Bits.{or_zero_r}
use Rattle.std.proofs.lemmas.Bool.{cond-false}
use Rattle.rules.specs.Op.{is_init}
use Rattle.measures.specs.Models.{set_of, bit_of}
use Rattle.measures.proofs.initialised.InitialisedMeasure.step.Goals as goal

pub returns-else-is : goal.returns-else-is
returns-else-is c =
    let none : is_init c.args.line ≡ false = sym c.is.ensures ∙ c.if-is.false in
    ap set_of (sym (ap (bit_or c.args.v.bits) (cond-false (is_init c.args.line) (bit_of c.args.line.operand) 0 none) ∙ or_zero_r c.args.v.bits))
