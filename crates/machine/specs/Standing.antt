-- All that a run of a pass holds, and what holds where it stands at a line, so that the line can be executed. Assumes nothing.
use Rattle.std.specs.Prelude.{◌≡◌, ℕ}
use Rattle.rules.specs.declared.unit.UnitId.{UnitId}
use Rattle.rules.specs.Named.{unit_named}
use Rattle.rules.specs.Op.{decode}
use Rattle.rules.specs.Program.{Program, line_at, flag_at, Own}
use Rattle.rules.specs.Effect.{Registers}
use Rattle.rules.specs.Run.{Memory, at, Config}
use Rattle.lines.specs.Views.{registers_of, line_effect, HasRule}
use Rattle.machine.specs.declared.place.Place.{Place}
use Rattle.machine.specs.declared.run.Run.{Run}
use Rattle.machine.specs.Views.{program_of, memory_of, place_of}

-- a pass that stands at line l of unit u
abbrev pub standing_at : UnitId → ℕ → Registers → Memory → Config
standing_at u l r m = record { place = at u l; registers = r; memory = m }

-- the program of a run
abbrev pub program_in : Run → Program
program_in s = program_of s.program.now

-- the unit that control is in
abbrev pub unit_in : Run → UnitId
unit_in s = unit_named s.unit

-- its registers
abbrev pub registers_in : Run → Registers
registers_in s = registers_of s.registers

-- its memory
abbrev pub memory_in : Run → Memory
memory_in s = memory_of s.memory.now

-- all that a run holds at a place
abbrev pub config_of : Place → Run → Config
config_of q s = record { place = place_of (unit_in s) q; registers = registers_in s; memory = memory_in s }

-- a run that goes on has the program that it had, and holds the memory that it was given
pub record IsSameRun (before after : Run) : Type 0 where
  pub same_program : after.program.now ≡ before.program.now
  pub same_memory : after.memory.ghost_name ≡ before.memory.ghost_name

-- a run goes on, and is then at a place where it holds what a configuration says
pub record Comes (before : Run) (q : Place) (after : Run) (c : Config) : Type 0 where
  pub same : IsSameRun before after
  pub holds : config_of q after ≡ c

-- a run stands at a line of its unit for which a rule exists, so that the line can be executed
pub record IsReady (s : Run) (l : ℕ) : Type 0 where
  pub own : Own (program_in s) (unit_in s) l
  pub rule : HasRule (line_effect (flag_at (program_in s) l) (program_in s).activation (decode (line_at (program_in s) l)) (registers_in s) (memory_in s).bytes)
