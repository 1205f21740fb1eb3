-- What the tables of an accepted program hold at a line. Assumes nothing.
use Rattle.std.proofs.Common.{◌≡◌, ℕ, ◌<◌, List, length, get_or, vec_items, ap, ◌∙◌, arith}
use Rattle.std.proofs.lemmas.List.{get_or_read}
use Rattle.rules.specs.declared.line.Line.{Line}
use Rattle.rules.specs.Op.{decode}
use Rattle.rules.specs.Effect.{Registers}
use Rattle.rules.specs.Program.{no_line, line_at, flag_at}
use Rattle.lines.specs.Views.{line_effect}
use Rattle.text.specs.declared.formed.Formed.{Formed}
use Rattle.text.specs.declared.marks.Mark.{Mark}
use Rattle.text.specs.Marks.{no_mark}
use Rattle.image.specs.Held.{meant}

module _ (formed : Formed) (l : ℕ) (within : l < length (meant formed.layout.program).lines) where
  pub line_read : (x : Line) → x ≡ get_or (vec_items formed.layout.program.lines) l x → x ≡ line_at (meant formed.layout.program) l
  line_read x e = get_or_read (vec_items formed.layout.program.lines) l x within e no_line

  pub flag_read : (m : Mark) → m ≡ get_or (vec_items formed.layout.marks) l m → m.flag ≡ flag_at (meant formed.layout.program) l
  flag_read m e =
      let h : l < length (vec_items formed.layout.marks) = omega (arith, formed.layout.marks.ok.0, formed.layout.marks_count, formed.layout.program.lines.ok.0) in
      ap (λ (x : Mark). x.flag) (get_or_read (vec_items formed.layout.marks) l m h e no_mark) ∙ formed.layout.flags_are l within

  -- what the line does by what was read is what it does by the program
  pub effect_read : (r : Registers) (bytes ms : List ℕ) (m : Mark) (x : Line) (cs : List ℕ) → m ≡ get_or (vec_items formed.layout.marks) l m → x ≡ get_or (vec_items formed.layout.program.lines) l x → cs ≡ vec_items formed.layout.program.activation → ms ≡ bytes → line_effect m.flag cs (decode x) r ms ≡ line_effect (flag_at (meant formed.layout.program) l) (meant formed.layout.program).activation (decode (line_at (meant formed.layout.program) l)) r bytes
  effect_read r bytes ms m x cs e₁ e₂ e₃ e₄ = let e = flag_read m e₁ in let h = line_read x e₂ in cc
