use Rattle.std.proofs.Common.{refl}
use Rattle.rules.specs.Session.{reports, no_report}
use Rattle.session.specs.States.{memory_at}
use Rattle.session.proofs.running.Running.position_report.Goals as goal

pub returns-in-Moving : goal.returns-in-Moving
returns-in-Moving g c = record { same_program = refl; comes = reports c.in-Moving.is (λ i. record { memory = memory_at c.args.self.now.fitted; phase = c.phase_after_report-self.ensures i }); cabinet_after = refl }

pub returns-in_default : goal.returns-in_default
returns-in_default g c = (record { same_program = refl; comes = no_report c.in_default.not-Moving; cabinet_after = refl }, refl)
