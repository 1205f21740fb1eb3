use Rattle.std.proofs.Common.{◌≡◌, ◌-◌, length}
use Rattle.rules.specs.Named.{module_number}
use Rattle.rules.specs.declared.unit.UnitId.TheVariants.{Module}
use Rattle.rules.specs.Run.{enter, Runs}
use Rattle.machine.specs.Views.{program_of, memory_of}
use Rattle.machine.specs.Standing.{program_in, config_of}
use Rattle.machine.proofs.pass.pass.Given as goal

abbrev pub invariant-loop-place : goal.invariant-loop-place
invariant-loop-place l =
    record {
      same_program : program_in l.run ≡ program_of l.program;
      same_memory : l.run.memory.ghost_name ≡ l.initial.run.memory.ghost_name;
      runs : Runs (program_of l.program) (enter (program_of l.program) (Module (module_number l.fn.«module»)) (memory_of l.fn.memory)) l.steps (config_of l.place l.run);
    }

abbrev pub decreases-loop-place : goal.decreases-loop-place
decreases-loop-place l = length (program_of l.program).lines - l.steps
