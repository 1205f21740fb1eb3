-- What a unit's text carries: its program is formed, and the program has the unit. Assumes nothing.
use Rattle.std.proofs.Common.{◌≡◌, ℕ, ◌-◌, ◌<◌, ◌≤◌, List, length, get_or, None, vec_items, vec_len, Option, sym, ap, ◌∙◌, arith}
use Rattle.std.proofs.lemmas.List.{get_or_default, get_or_read}
use Rattle.rules.specs.declared.unit.UnitId.{UnitId}
use Rattle.rules.specs.declared.unit.UnitId.TheVariants.{Module, Mechanism}
use Rattle.rules.specs.Program.{Program, Real, main_module, first, end, begin_line, end_line}
use Rattle.rules.specs.Image.{line_section}
use Rattle.image.specs.Held.{meant}
use Rattle.text.specs.declared.formed.Formed as text
use Rattle.text.specs.declared.bracket.Bracket.{Bracket}
use Rattle.text.specs.Tables.{no_bracket}
use Rattle.text.proofs.Shape.{formed_by_rules}
use Rattle.theory.proofs.Text.{end_within}
use Rattle.theory.proofs.Orderly.{orderly}
use Rattle.theory.proofs.Spans.{span}
use Rattle.walk.specs.Units.{Had}
use Rattle.walk.specs.UnitTexts.{program_of, id_of}
use Rattle.walk.specs.declared.unit_text.UnitText.{UnitText}
use Rattle.walk.proofs.Sound.{Sound, sound}

-- a formed program's lines are few
pub lines_few : (f : text.Formed) → length (meant f.layout.program).lines ≤ 2048
lines_few f = ((formed_by_rules f).shaped.counts line_section).1

module _ (f : text.Formed) (k : ℕ) (within : k < vec_len f.layout.program.activation) where
  real : k < length (vec_items f.layout.program.activation)
  real = let o = f.layout.program.activation.ok.0 in omega arith

  -- the MECH_END of a mechanism, as the table has it
  pub end_read : (b : Bracket) → b ≡ get_or (vec_items f.layout.brackets) k b → b.end ≡ end_line (meant f.layout.program) k
  end_read b r =
      let room : k < length (vec_items f.layout.brackets) = omega (arith, f.layout.brackets.ok.0, f.layout.brackets_count) in
      ap (λ (x : Bracket). x.end) (get_or_read _ _ _ room r no_bracket) ∙ f.layout.ends_are k real

  -- they are lines of the program
  pub span_few : (begin_line (meant f.layout.program) k < 2048) × (end_line (meant f.layout.program) k < 2048)
  span_few =
      let g = formed_by_rules f in
      let s = span (meant f.layout.program) g.shaped (orderly (meant f.layout.program) g) k real in
      let w = end_within (meant f.layout.program) main_module g.shaped.all_lines in
      let n = lines_few f in
      let a = s.order in
      let b = s.to in
      (omega arith, omega arith)

had_real : (p : Program) (u : UnitId) → Had p u → Real p u
had_real p (Module m) h = h
had_real p (Mechanism k) h = h

-- the unit of a unit's text is one that its program has
pub unit_real : (u : UnitText) → Real (program_of u) (id_of u)
unit_real u = had_real (program_of u) (id_of u) u.had

pub unit_sound : (u : UnitText) → Sound (program_of u) (id_of u)
unit_sound u = sound (program_of u) (formed_by_rules u.formed.now) (id_of u) (unit_real u)

-- what is read at a line's place of a table is that line's entry
pub read_at : (u : UnitText) {V : Type 0} (t : List (Option V)) (l : ℕ) (d : Option V) {x : Option V} → l - u.first < length t → get_or t (l - u.first) d ≡ x → get_or t (l - first (program_of u) (id_of u)) None ≡ x
read_at u t l d room r = ap (λ (n : ℕ). get_or t (l - n) None) (sym u.first_is) ∙ get_or_default t (l - u.first) None d room ∙ r

pub read_at_end : (u : UnitText) {V : Type 0} (t : List (Option V)) (d : Option V) {x : Option V} → u.end - u.first < length t → get_or t (u.end - u.first) d ≡ x → get_or t (end (program_of u) (id_of u) - first (program_of u) (id_of u)) None ≡ x
read_at_end u t d room r = ap (λ (n : ℕ). get_or t (n - first (program_of u) (id_of u)) None) (sym u.end_is) ∙ read_at u t u.end d room r
