use Rattle.std.proofs.Common.{◌≡◌, ℕ, ◌+◌, ◌-◌, ◌<◌, ◌≤◌, false, List, length, get_or, take, drop, None, vec_items, ap, ◌∙◌, subst, arith, rules}
use Rattle.std.proofs.lemmas.List.{length-take-le, length-drop, get_or-take, get_or-drop}
use Rattle.rules.specs.declared.line.Line.{Line}
use Rattle.rules.specs.Program.{no_line, line_at, module_of, module_first, open_after, flag_after, stretch, unit_of}
use Rattle.rules.specs.declared.unit.Module.TheVariants.{Main}
use Rattle.rules.specs.Named.{module_number, unit_named}
use Rattle.rules.proofs.Units.{module_number-below, module_number-injective}
use Rattle.image.specs.Held.{meant}
use Rattle.theory.proofs.Text.{named, end_within, first_end, module_is}
use Rattle.text.specs.Marks.{Marked}
use Rattle.text.proofs.Shape.{shaped}
use Rattle.text.proofs.MarkSteps.{marked_more, opened_more, flagged_more, unit_in_main, unit_elsewhere, flag_is}
use Rattle.text.proofs.marks.marking.mark_module.Goals as goal
use Rattle.text.proofs.marks.marking.mark_module.Goals.{After-deref, then-eq, else-eq}

-- the module's lines are a part of the text's
within : (c : After-deref) → (c.args.first ≤ c.args.end) × (c.args.end ≤ length c.deref.result.now) × (length c.deref.result.now ≤ 2048)
within c =
    let p = c.args.program.now in
    let f = first_end (meant p) (module_number c.args.«module») in
    let e = end_within (meant p) (module_number c.args.«module») (shaped p).all_lines in
    (omega (arith, c.requires.first, c.requires.end), omega (arith, c.requires.end, c.deref.ensures.len, p.lines.ok.0), omega (arith, c.deref.ensures.len, p.line_count.1))

pub offset_bounds-deref-first : goal.offset_bounds-deref-first
offset_bounds-deref-first c = let w = within (goal.at.offset_bounds-deref-first c).After-deref in search rules

pub slice_bounds-line-items-count : goal.slice_bounds-line-items-count
slice_bounds-line-items-count c = (within (goal.at.slice_bounds-line-items-count c).After-deref).0

pub slice_bounds-line-items-start : goal.slice_bounds-line-items-start
slice_bounds-line-items-start c = let w = within (goal.at.slice_bounds-line-items-start c).After-deref in search rules

pub slice_bounds-line-items-end : goal.slice_bounds-line-items-end
slice_bounds-line-items-end c = let w = within (goal.at.slice_bounds-line-items-end c).After-deref in search rules

pub loop-line-preserved : goal.loop-line-preserved
loop-line-preserved c =
    let p = meant c.args.program.now in
    let w = within (goal.at.loop-line-preserved c).After-deref in
    let xs = c.deref.result.now in
    let few = c.args.end - c.args.first in
    let k = c.loop-line.line-index in
    let i = c.args.first + k in
    let m = module_number c.args.«module» in
    let s = shaped c.args.program.now in
    let before : k < few = omega (arith, w.0, w.1, c.loop-line-test.true, length-take-le few (drop c.args.first xs) (omega (arith, w.0, w.1, length-drop c.args.first xs))) in
    let x = get_or (take few (drop c.args.first xs)) k no_line in
    let inside : i < length p.lines = omega (arith, w.0, w.1, before, c.deref.ensures.len, c.args.program.now.lines.ok.0) in
    let there : x ≡ line_at p i = get_or-take few (drop c.args.first xs) k no_line before ∙ get_or-drop c.args.first xs k no_line ∙ ap (λ (ys : List Line). get_or ys i no_line) c.deref.ensures.value in
    let here : module_of p.lengths i ≡ m = module_is p i m (named p s m (module_number-below c.args.«module»)) (omega (arith, c.requires.first)) (omega (arith, before, c.requires.end)) in
    let from : c.args.first ≤ i = omega arith in
    let inv = c.loop-line.invariant in
    let opened : c.loop-line.opened ≡ open_after None (stretch p.lines (module_first p m) i) = inv.1 ∙ ap (λ (f : ℕ). open_after None (stretch p.lines f i)) c.requires.first in
    let flagged = inv.2 ∙ ap (λ (f : ℕ). flag_after _ (stretch p.lines f i)) c.requires.first in
    let unit : unit_named c.if-eq.unit ≡ unit_of p i = elim c.if-eq.branch [ then-eq v ↦ ap unit_named v.unit-is ∙ v.main_or-unit.ensures ∙ unit_in_main p m i here c.loop-line.opened (let q : c.args.«module» ≡ Main = search rules in ap module_number q) opened | else-eq v ↦ ap unit_named v.unit-is ∙ unit_elsewhere p m i here (λ e. (let q = module_number-injective c.args.«module» Main e in search rules)) ] in
    let new = vec_items c.push.new.self in
    let next : i + 1 ≡ c.args.first + (k + 1) = omega arith in
    subst (λ (j : ℕ). Marked p new j × (c.open_after-opened.result ≡ open_after None (stretch p.lines c.args.first j)) × (c.flag_after-flag.result ≡ flag_after false (stretch p.lines c.args.first j))) next (
      marked_more p (vec_items c.loop-line.marks) new i (record { unit = c.if-eq.unit; flag = c.loop-line.flag }) inv.0 c.in_ok-push.ensures.items unit (flag_is p m i here c.loop-line.flag flagged),
      c.open_after-opened.ensures ∙ opened_more p c.args.first i x from inside there c.loop-line.opened inv.1,
      c.flag_after-flag.ensures ∙ flagged_more p c.args.first i x from inside there c.loop-line.flag inv.2,
    )

pub returns : goal.returns
returns c =
    let w = within (goal.at.returns c).After-deref in
    let xs = c.deref.result.now in
    let few = c.args.end - c.args.first in
    let e : c.args.first + c.loop-line.line-index ≡ c.args.end = omega (arith, w.0, w.1, c.loop-line-test.false, c.loop-line.auto.line-index-end, length-take-le few (drop c.args.first xs) (omega (arith, w.0, w.1, length-drop c.args.first xs))) in
    subst (λ (i : ℕ). Marked (meant c.args.program.now) (vec_items c.loop-line.marks) i) e c.loop-line.invariant.0
