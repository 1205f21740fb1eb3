use Rattle.std.proofs.Common.{◌≡◌, ◌+◌, false, None}
use Rattle.rules.specs.Program.{open_after, flag_after, stretch}
use Rattle.image.specs.Held.{meant}
use Rattle.text.specs.Marks.{Marked}
use Rattle.text.proofs.marks.marking.mark_module.Given as goal

abbrev pub invariant-loop-line : goal.invariant-loop-line
invariant-loop-line l =
    let p = meant l.program in
    let i = l.first + l.line-index in
    Marked p l.marks.items i × (l.opened ≡ open_after None (stretch p.lines l.first i)) × (l.flag ≡ flag_after false (stretch p.lines l.first i))
