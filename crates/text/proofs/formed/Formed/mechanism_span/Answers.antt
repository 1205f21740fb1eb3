use Rattle.std.proofs.Common.{◌≡◌, ◌<◌, ◌&&◌, eqb, List, vec_len, vec_items, ap, ◌∙◌, arith}
use Rattle.rules.specs.Op.{is_begin, is_end}
use Rattle.rules.specs.Program.{begin_line, end_line}
use Rattle.image.specs.Held.{meant}
use Rattle.text.specs.declared.bracket.Bracket.{Bracket}
use Rattle.text.specs.Tables.{no_bracket, bracket_at}
use Rattle.text.proofs.Firsts.{find_within}
use Rattle.text.proofs.formed.Formed.mechanism_span.Goals as goal

pub overflow_add-result : goal.overflow_add-result
overflow_add-result c =
    let s = c.args.self.now.layout in
    let k = c.args.k in
    let inside : k < vec_len s.brackets = omega (arith, c.in_ok-bracket.ensures.lookup.3.0, c.deref.ensures.len) in
    let is : c.in_ok-bracket.bracket.now.begin ≡ begin_line (meant s.program) k = ap (λ (b : Bracket). b.begin) (c.in_ok-bracket.ensures.lookup.3.1 no_bracket ∙ ap (λ (xs : List Bracket). bracket_at xs k) c.deref.ensures.value) ∙ s.begins_are k (omega (arith, inside, s.brackets_count, s.program.activation.ok.0)) in
    omega (arith, is, find_within (λ x. is_begin x && eqb x.operand k) (vec_items s.program.lines), s.program.lines.ok.0, s.program.line_count.1)

pub overflow_add-result-2 : goal.overflow_add-result-2
overflow_add-result-2 c =
    let s = c.args.self.now.layout in
    let k = c.args.k in
    let inside : k < vec_len s.brackets = omega (arith, c.in_ok-bracket.ensures.lookup.3.0, c.deref.ensures.len) in
    let is : c.in_ok-bracket.bracket.now.end ≡ end_line (meant s.program) k = ap (λ (b : Bracket). b.end) (c.in_ok-bracket.ensures.lookup.3.1 no_bracket ∙ ap (λ (xs : List Bracket). bracket_at xs k) c.deref.ensures.value) ∙ s.ends_are k (omega (arith, inside, s.brackets_count, s.program.activation.ok.0)) in
    omega (arith, is, find_within (λ x. is_end x && eqb x.operand k) (vec_items s.program.lines), s.program.lines.ok.0, s.program.line_count.1)
