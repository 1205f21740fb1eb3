use Rattle.rules.specs.Session.{scans}
use Rattle.session.proofs.Fits.{same_program}
use Rattle.session.proofs.running.Running.scan.Goals as goal

pub returns : goal.returns
returns g c = record { same_program = same_program c.scan-answer.ensures.program; comes = scans c.scan-answer.ensures.scans; cabinet_after = (c.send_outputs.new.cabinet, c.send_outputs.ensures, c.advance.ensures) }
