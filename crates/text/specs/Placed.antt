-- A line of a text with the unit that has it. Assumes nothing.
use Rattle.std.specs.Prelude.{◌≡◌, ℕ, ◌<◌, length, Some, None, Option}
use Rattle.rules.specs.Program.{Program, line_at, unit_of}
use Rattle.rules.specs.Named.{unit_named}
use Rattle.text.specs.declared.layout.placed.Placed.{Placed}

-- line l with its unit, where the text has it
abbrev pub Stands : Program → ℕ → Option Placed → Type 0
Stands p l None = l < length p.lines → ⊥
Stands p l (Some x) = (l < length p.lines) × (x.line ≡ line_at p l) × (unit_named x.unit ≡ unit_of p l)
