-- What the verdict on a formed program tells. Assumes nothing.
use Rattle.std.specs.Prelude.{◌≡◌, ℕ}
use Rattle.rules.specs.Program.{Program}
use Rattle.rules.specs.Verdict.{MissesInit}
use Rattle.text.specs.declared.fault.CheckFault.{CheckFault}
use Rattle.text.specs.declared.fault.CheckFault.TheVariants.{Text, Memory}
use Rattle.text.specs.declared.fault.TextFault.TheVariants.{Uninitialised}

-- what a check's fault tells of module m: that it leaves a mechanism uninitialised; want of memory tells nothing
abbrev pub TellsMissed : Program → ℕ → CheckFault → Type 0
TellsMissed p m (Text e) = (e ≡ Uninitialised m) × MissesInit p m
TellsMissed p m Memory = Unit {0}
