use Rattle.std.proofs.Common.{◌≡◌, ◌+◌, ◌-◌, ◌≤◌, Bool, not, vec_items, Decides, sym, ap, ◌∙◌, subst, arith}
use Rattle.std.proofs.lemmas.List.{get_or_read}
use Rattle.rules.specs.Op.{is_begin, is_end}
use Rattle.rules.specs.Program.{no_line, line_at, main_module, module_first, module_end}
use Rattle.image.specs.Held.{meant}
use Rattle.theory.proofs.Text.{first_end, end_within}
use Rattle.text.proofs.Shape.{shaped}
use Rattle.text.proofs.LeftOver.{OpenEnd, open_by_begin, shut_by_end, open_by_unit}
use Rattle.text.proofs.layout.Layout.is_left_open.Goals as goal
use Rattle.text.proofs.layout.Layout.is_left_open.Goals.{After-index-last}

-- MAIN has lines, and the last of them is the one that is read
module _ (c : After-index-last) where
  from : module_first (meant c.args.self.now.program) main_module ≤ c.end_of-end.result - 1
  from =
      let a = c.start_of-first.ensures in
      let b = c.end_of-end.ensures in
      let e = first_end (meant c.args.self.now.program) main_module in
      let d = c.if-first-end.false in
      omega arith

  last : c.end_of-end.result - 1 + 1 ≡ module_end (meant c.args.self.now.program) main_module
  last =
      let a = c.start_of-first.ensures in
      let b = c.end_of-end.ensures in
      let e = first_end (meant c.args.self.now.program) main_module in
      let d = c.if-first-end.false in
      omega arith

  there : c.index-last.result.now ≡ line_at (meant c.args.self.now.program) (c.end_of-end.result - 1)
  there =
      let e = end_within (meant c.args.self.now.program) main_module (shaped c.args.self.now.program).all_lines in
      let b = last in
      get_or_read (vec_items c.args.self.now.program.lines) (c.end_of-end.result - 1) c.index-last.result.now (omega arith) c.index-last.ensures no_line

pub returns-then-is : goal.returns-then-is
returns-then-is c =
    let d = (goal.at.returns-then-is c).After-index-last in
    let p = c.args.self.now.program in
    subst (λ (b : Bool). Decides b (OpenEnd (meant p))) (sym c.if-is.true) (open_by_begin (meant p) (shaped p) (c.end_of-end.result - 1) (from d) (last d) (ap is_begin (sym (there d)) ∙ sym c.if-is.ensures))

pub returns-then-not-is : goal.returns-then-not-is
returns-then-not-is c =
    let d = (goal.at.returns-then-not-is c).After-index-last in
    let p = c.args.self.now.program in
    open_by_unit (meant p) (shaped p) (c.end_of-end.result - 1) (from d) (last d) c.owns.result c.owns.ensures (ap is_begin (sym (there d)) ∙ sym c.if-is.ensures) (ap is_end (sym (there d)) ∙ sym c.if-not-is.ensures)

pub returns-else-not-is : goal.returns-else-not-is
returns-else-not-is c =
    let d = (goal.at.returns-else-not-is c).After-index-last in
    let p = c.args.self.now.program in
    subst (λ (b : Bool). Decides (not b) (OpenEnd (meant p))) (sym c.if-not-is.false) (shut_by_end (meant p) (shaped p) (c.end_of-end.result - 1) (from d) (last d) (ap is_end (sym (there d)) ∙ sym c.if-not-is.ensures))
