-- The refusal that each fault of a text tells. Assumes nothing.
use Rattle.std.specs.Prelude.{ℕ}
use Rattle.rules.specs.declared.refusal.Rule.{Rule}
use Rattle.rules.specs.declared.refusal.Rule.TheVariants as rule
use Rattle.rules.specs.declared.refusal.Layer.TheVariants.{Text}
use Rattle.rules.specs.declared.refusal.Refusal.{Refusal}
use Rattle.text.specs.declared.fault.TextFault.{TextFault}
use Rattle.text.specs.declared.fault.TextFault.TheVariants.{UnknownLine, BadOperand, BadMechanism, BadJump, BadExit, BadInit, BadDepth, Uninitialised}

-- the rule that a fault breaks
abbrev pub fault_rule : TextFault → Rule
fault_rule (UnknownLine l) = rule.UnknownLine
fault_rule (BadOperand l) = rule.BadOperand
fault_rule (BadMechanism l) = rule.BadMechanism
fault_rule (BadJump l) = rule.BadJump
fault_rule (BadExit l) = rule.BadExit
fault_rule (BadInit l) = rule.BadInit
fault_rule (BadDepth l) = rule.BadDepth
fault_rule (Uninitialised m) = rule.Uninitialised

-- the place where it is broken
abbrev pub fault_place : TextFault → ℕ
fault_place (UnknownLine l) = l
fault_place (BadOperand l) = l
fault_place (BadMechanism l) = l
fault_place (BadJump l) = l
fault_place (BadExit l) = l
fault_place (BadInit l) = l
fault_place (BadDepth l) = l
fault_place (Uninitialised m) = m

-- the refusal that a fault tells: its rule, the layer of the text, and its place
abbrev pub text_refusal : TextFault → Refusal
text_refusal e = record { rule = fault_rule e; layer = Text; place = fault_place e }
