use mathlib.Core.Path.{refl}
use Rattle.theory.proofs.Null.{null_accepted, null_loads, cut_refused, longer_refused}
use Rattle.theory.proofs.Texts.{nine_accepted, ten_refused, left_refused, meeting_refused}
use Rattle.theory.proofs.Worked.{gate_works}
use Rattle.theory.proofs.Accepted.{gate_accepted}
use Rattle.theory.proofs.Certified.{gate_certified}
use Rattle.worked.proofs.worked_programs.Goals as goal

pub returns : goal.returns
returns c = record {
  null_loads = null_loads;
  null_accepted = null_accepted;
  cut_refused = cut_refused;
  longer_refused = longer_refused;
  nine_accepted = nine_accepted;
  ten_refused = ten_refused;
  left_refused = left_refused;
  meeting_refused = meeting_refused;
  sum_wraps = refl;
  smallest_stays = refl;
  signed_order = refl;
  gate_works = gate_works;
  gate_accepted = gate_accepted;
  gate_certified = gate_certified;
}
