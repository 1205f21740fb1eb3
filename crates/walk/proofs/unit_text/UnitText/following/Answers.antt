use Rattle.std.proofs.Common.{◌≡◌, ℕ, ◌+◌, ◌<◌, true, vec_len, sym, ap, ◌∙◌, arith}
use Rattle.std.proofs.lemmas.Bool.{cond-true}
use Rattle.rules.specs.declared.line.Line.{Line}
use Rattle.rules.specs.Op.{is_begin}
use Rattle.rules.specs.Program.{Own, line_at, end_line}
use Rattle.walk.specs.declared.unit_text.UnitText.{UnitText}
use Rattle.walk.specs.UnitTexts.{program_of, id_of}
use Rattle.walk.proofs.Givens.{unit_sound, end_read, span_few}
use Rattle.walk.proofs.unit_text.UnitText.following.Goals as goal

-- the mechanism that MECH_BEGIN begins
real : (u : UnitText) (l k : ℕ) (x : Line) → Own (program_of u) (id_of u) l → x ≡ line_at (program_of u) l → is_begin x ≡ true → k ≡ x.operand → k < vec_len u.formed.now.layout.program.activation
real u l k x o r e n =
    let h = (unit_sound u).begun l o (ap is_begin (sym r) ∙ e) in
    let q : x.operand ≡ (line_at (program_of u) l).operand = ap (λ (y : Line). y.operand) r in
    omega (arith, u.formed.now.layout.program.activation.ok.0)

pub line-line-requires : goal.line-line-requires
line-line-requires c =
    let u = c.args.self.now in
    omega (arith, (unit_sound u).high c.args.l c.requires, u.end_is)

pub index-requires : goal.index-requires
index-requires c =
    let u = c.args.self.now in
    omega (arith, real u c.args.l _ _ c.requires c.line-line.ensures (sym c.is.ensures ∙ c.if-is.true) c.from.ensures, u.formed.now.layout.brackets_count)

pub overflow_add-result : goal.overflow_add-result
overflow_add-result c =
    let f = c.args.self.now.formed.now in
    let h = real c.args.self.now c.args.l c.from.result _ c.requires c.line-line.ensures (sym c.is.ensures ∙ c.if-is.true) c.from.ensures in
    omega (arith, end_read f c.from.result h _ c.index.ensures, span_few f c.from.result h)

pub returns-then-is : goal.returns-then-is
returns-then-is c =
    let u = c.args.self.now in
    let p = program_of u in
    let l = c.args.l in
    let begun : is_begin c.line-line.result ≡ true = sym c.is.ensures ∙ c.if-is.true in
    let h = real u l c.from.result _ c.requires c.line-line.ensures begun c.from.ensures in
    ap (λ (n : ℕ). n + 1) (end_read u.formed.now c.from.result h _ c.index.ensures) ∙ ap (λ (n : ℕ). end_line p n + 1) (c.from.ensures ∙ ap (λ (x : Line). x.operand) c.line-line.ensures)
    ∙ sym (cond-true (is_begin (line_at p l)) (end_line p (line_at p l).operand + 1) (l + 1) (ap is_begin (sym c.line-line.ensures) ∙ begun))
