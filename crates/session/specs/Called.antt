-- A start and a call of a running program by the rules. Assumes nothing.
use Rattle.std.specs.Prelude.{◌≡◌}
use Rattle.rules.specs.declared.session.Phase.TheVariants.{Idle}
use Rattle.rules.specs.declared.session.Call.{Call}
use Rattle.rules.specs.declared.session.Call.TheVariants.{Halt}
use Rattle.rules.specs.declared.session.Answer.{Answer}
use Rattle.rules.specs.declared.session.Answer.TheVariants.{Done}
use Rattle.rules.specs.Program.{Program}
use Rattle.rules.specs.Cabinet.{Meaning, Sent}
use Rattle.rules.specs.Session.{outputs, Starts, Outcome, CabinetAfter}
use Rattle.session.specs.declared.running.Left.{Left}
use Rattle.session.specs.declared.running.Running.{Running}
use Rattle.session.specs.States.{program_in, machine_in, machine_at_halt}

module _ {C : Type 0} (M : Meaning C) where
  -- a program was started on a cabinet
  pub record Started (p : Program) (x : C) (after : Running C) : Type 0 where
    pub same_program : program_in after ≡ p
    pub starts : Starts p (Done Idle) (machine_in after)
    pub sends : Sent M x (outputs (machine_in after).memory) after.cabinet

  -- a call was made of a running program, and answered
  pub record Called (before : Running C) (c : Call) (answer : Answer) (after : Running C) : Type 0 where
    pub same_program : program_in after ≡ program_in before
    pub comes : Outcome (program_in before) (M.inputs before.cabinet) (machine_in before) c answer (machine_in after)
    pub cabinet_after : CabinetAfter M c before.cabinet (machine_in after).memory after.cabinet

  -- a running program was halted
  pub record HaltedFrom (before : Running C) (after : Left C) : Type 0 where
    pub comes : Outcome (program_in before) (M.inputs before.cabinet) (machine_in before) Halt (Done after.phase) (machine_at_halt after)
    pub cabinet_after : CabinetAfter M Halt before.cabinet (machine_at_halt after).memory after.cabinet
