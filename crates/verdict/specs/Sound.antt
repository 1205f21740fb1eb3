-- What an accepted program keeps. Assumes nothing.
use Rattle.std.specs.Prelude.{ℕ}
use Rattle.rules.specs.Program.{Program}
use Rattle.rules.specs.Verdict.{Breaks}

-- no rule of the text is broken
abbrev pub Unbroken : Program → Type 0
Unbroken p = (rule place : ℕ) → Breaks p rule place → ⊥
