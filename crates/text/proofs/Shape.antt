-- A program as read has its shape, and a formed program is formed by the rules. Assumes nothing.
use Rattle.std.proofs.Common.{ℕ, vec_items, ◌∙◌, subst}
use Rattle.rules.specs.Image.{Section, data_section, mechanism_section, module_section, line_section}
use Rattle.rules.specs.Form.{Shaped, InRange, BitsInside, records}
use Rattle.rules.specs.Verdict as rules
use Rattle.image.specs.declared.program.Program.{Program}
use Rattle.image.specs.Held.{meant}
use Rattle.text.specs.declared.formed.Formed.{Formed}

module _ (p : Program) where
  counted : (s : Section) → InRange s (records (meant p) s)
  counted data_section = subst (λ (n : ℕ). InRange data_section n) p.initial.ok.0 p.data_count
  counted mechanism_section = subst (λ (n : ℕ). InRange mechanism_section n) p.activation.ok.0 p.mechanism_count
  counted module_section = subst (λ (n : ℕ). InRange module_section n) p.lengths.ok.0 p.module_count
  counted line_section = subst (λ (n : ℕ). InRange line_section n) p.lines.ok.0 p.line_count

  pub shaped : Shaped (meant p)
  shaped = record {
    counts = counted;
    bytes_small = p.bytes_small;
    activation_inside = subst (λ (n : ℕ). BitsInside (vec_items p.activation) n) p.initial.ok.0 p.bits_inside;
    all_lines = p.all_lines ∙ p.lines.ok.0;
  }

pub formed_by_rules : (f : Formed) → rules.Formed (meant f.layout.program)
formed_by_rules f = record { shaped = shaped f.layout.program; unbroken = f.unbroken }
