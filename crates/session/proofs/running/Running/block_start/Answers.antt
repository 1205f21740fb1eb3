use Rattle.std.proofs.Common.{refl}
use Rattle.rules.specs.Session.{starts_block, no_block}
use Rattle.session.proofs.running.Running.block_start.Goals as goal

pub returns-in-Idle : goal.returns-in-Idle
returns-in-Idle g c = record { same_program = refl; comes = starts_block c.in-Idle.is refl; cabinet_after = refl }

pub returns-in_default : goal.returns-in_default
returns-in_default g c = (record { same_program = refl; comes = no_block c.in_default.not-Idle; cabinet_after = refl }, refl)
