use Rattle.std.proofs.Common.{◌≡◌, ℕ, ◌<◌, Bool, false, ◌&&◌, ◌||◌, length, get_or, pos, vec_items, sym, refl, ap, ◌∙◌, arith}
use Rattle.std.proofs.lemmas.Int.{ints}
use Rattle.std.proofs.lemmas.List.{get_or_read}
use Rattle.std.proofs.lemmas.Bool.{both_ways}
use Rattle.rules.specs.declared.line.Line.{Line}
use Rattle.rules.specs.declared.op.Mnemonic.TheVariants as name
use Rattle.rules.specs.Op.{is, is_begin, is_end, is_exit}
use Rattle.rules.specs.Program.{Own, line_at, end, flag_at, pushes}
use Rattle.text.specs.declared.marks.Mark.{Mark}
use Rattle.text.specs.Marks.{no_mark}
use Rattle.walk.specs.UnitTexts.{program_of, id_of}
use Rattle.walk.specs.declared.unit_text.UnitText.{UnitText}
use Rattle.walk.proofs.Givens.{unit_sound}
use Rattle.verdict.proofs.Balance.{pushed_at_eight, push_misfits}
use Rattle.verdict.proofs.depths.misfits.Goals as goal

-- an own line is below the unit's end
below : (u : UnitText) (l : ℕ) → Own (program_of u) (id_of u) l → l < end (program_of u) (id_of u)
below u l o = (unit_sound u).high l o

-- the text flag at a line, as the table has it
flag_read : (u : UnitText) (l : ℕ) (m : Mark) → Own (program_of u) (id_of u) l → m ≡ get_or (vec_items u.formed.now.layout.marks) l m → m.flag ≡ flag_at (program_of u) l
flag_read u l m o r =
    let f = u.formed.now.layout in
    let h = o.within in
    let room : l < length (vec_items f.marks) = omega (arith, f.marks.ok.0, f.marks_count, f.program.lines.ok.0) in
    ap (λ (x : Mark). x.flag) (get_or_read _ _ _ room r no_mark) ∙ f.flags_are l h

pub line-line-requires : goal.line-line-requires
line-line-requires c = let u = c.args.unit.now in let h = below u c.args.l c.requires in let e = u.end_is in omega arith

pub returns-then-low-ne8 : goal.returns-then-low-ne8
returns-then-low-ne8 c =
    let u = c.args.unit.now in
    let p = program_of u in
    let l = c.args.l in
    let same : c.args.depths.0 ≡ c.args.depths.1 = omega (arith, ints) in
    let free = ap (λ (x : Line). is_exit x || (is_begin x || is_end x)) (sym c.line-line.ensures) ∙ sym c.if-wants_no_cell.ensures in
    (λ h. absurd (both_ways false refl h), λ m. absurd (let e = (pushed_at_eight p (id_of u) l c.requires (below u l c.requires) _ _ same (λ e. omega (arith, ints)) free m).1 in omega (arith, ints)))

pub returns : goal.returns
returns c =
    let u = c.args.unit.now in
    let p = program_of u in
    let l = c.args.l in
    let same : c.args.depths.0 ≡ c.args.depths.1 = omega (arith, ints) in
    let eight : c.args.depths.0 ≡ pos 8 = omega (arith, ints) in
    let free = ap (λ (x : Line). is_exit x || (is_begin x || is_end x)) (sym c.line-line.ensures) ∙ sym c.if-wants_no_cell.ensures in
    let flag = flag_read u l _ c.requires c.index.ensures in
    let told : c.puts_a_cell.result ≡ pushes p l = c.puts_a_cell.ensures ∙ ap (λ (x : Line). is name.Ldr x && c.index.result.now.flag) c.line-line.ensures ∙ ap (λ (b : Bool). is name.Ldr (line_at p l) && b) flag in
    (λ h. push_misfits p (id_of u) l c.requires (below u l c.requires) _ _ same eight (sym told ∙ h), λ m. told ∙ (pushed_at_eight p (id_of u) l c.requires (below u l c.requires) _ _ same (λ e. omega (arith, ints)) free m).0)
