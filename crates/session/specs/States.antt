-- What a running and a halted program stand for. Assumes nothing.
use Rattle.rules.specs.Program.{Program}
use Rattle.rules.specs.Session.{Machine}
use Rattle.machine.specs.Views.{program_of, memory_of}
use Rattle.rules.specs.Run as rules
use Rattle.session.specs.declared.fitted.Fitted.{Fitted}
use Rattle.session.specs.declared.running.Left.{Left}
use Rattle.session.specs.declared.running.Running.{Running}

-- the program, of the two that fit
abbrev pub program_at : Fitted → Program
program_at f = program_of f.program.now

-- the memory, of the two that fit
abbrev pub memory_at : Fitted → rules.Memory
memory_at f = memory_of f.memory

module _ {C : Type 0} where
  -- the program that runs
  abbrev pub program_in : Running C → Program
  program_in r = program_at r.fitted

  -- its data, points and phase
  abbrev pub machine_in : Running C → Machine
  machine_in r = record { memory = memory_at r.fitted; phase = r.phase }

  -- the data, points and phase at the halt
  abbrev pub machine_at_halt : Left C → Machine
  machine_at_halt h = record { memory = memory_of h.memory; phase = h.phase }
