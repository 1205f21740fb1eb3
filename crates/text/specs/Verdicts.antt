-- What the checks of a text tell. Assumes nothing.
use Rattle.std.specs.Prelude.{ℕ, ◌<◌}
use Rattle.rules.specs.Refusal.{rule_number}
use Rattle.rules.specs.Program as rules
use Rattle.rules.specs.Verdict.{Breaks, TextRefused}
use Rattle.image.specs.declared.program.Program.{Program}
use Rattle.image.specs.Held.{meant}
use Rattle.text.specs.declared.fault.TextFault.{TextFault}
use Rattle.text.specs.declared.fault.CheckFault.{CheckFault}
use Rattle.text.specs.declared.fault.CheckFault.TheVariants.{Text, Memory}
use Rattle.text.specs.Faults.{fault_rule, fault_place}

-- no rule of the text below number n is broken
abbrev pub Keeps : rules.Program → ℕ → Type 0
Keeps p n = (rule place : ℕ) → rule < n → Breaks p rule place → ⊥

-- a fault of the text names the lowest rule that is broken, and the first place where it is
abbrev pub RefusedBy : rules.Program → TextFault → Type 0
RefusedBy p e = TextRefused p (rule_number (fault_rule e)) (fault_place e)

-- what a check's fault tells of a program; want of memory tells nothing
abbrev pub Told : Program → CheckFault → Type 0
Told p (Text e) = RefusedBy (meant p) e
Told p Memory = Unit {0}
