-- The rules and their numbers. Assumes nothing.
use Rattle.std.specs.Prelude.{ℕ}
use Rattle.rules.specs.declared.refusal.Rule.{Rule}
use Rattle.rules.specs.declared.refusal.Rule.TheVariants.{TooShort, CountOutOfRange, ActivationOutside, BytesLeftOver, WrongTotal, UnknownLine, BadOperand, BadMechanism, BadJump, BadExit, BadInit, BadDepth, Uninitialised, BlockStartOutsidePhase0, ReportOutsidePhase2, PortAboveSeven}

-- the number by which a rule is known
abbrev pub rule_number : Rule → ℕ
-- of the image
rule_number TooShort = 1
rule_number CountOutOfRange = 2
rule_number ActivationOutside = 3
rule_number BytesLeftOver = 4
rule_number WrongTotal = 5
-- of the text, line by line
rule_number UnknownLine = 6
rule_number BadOperand = 7
rule_number BadMechanism = 8
rule_number BadJump = 9
rule_number BadExit = 10
rule_number BadInit = 11
-- of the text, over its routes
rule_number BadDepth = 13
rule_number Uninitialised = 14
-- of a session's calls
rule_number BlockStartOutsidePhase0 = 20
rule_number ReportOutsidePhase2 = 21
-- of a cabinet's ports
rule_number PortAboveSeven = 26
