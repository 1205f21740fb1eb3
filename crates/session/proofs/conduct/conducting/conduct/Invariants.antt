use Rattle.std.proofs.Common.{◌≡◌, ◌<◌, length, vec_items, vec_len, vec_capacity}
use Rattle.machine.specs.Views.{program_of}
use Rattle.session.specs.Called.{Started}
use Rattle.session.proofs.Conducting.{Going}
use Rattle.session.proofs.conduct.conducting.conduct.Given as goal

-- the cabinet that was handed over is no variable of the loop any more, so the invariant speaks of any on which the start led to where the loop began
abbrev pub invariant-loop-call : goal.invariant-loop-call
invariant-loop-call g l =
    let M = g.C.Cabinet.meaning in
    let p = program_of l.program in
    (vec_len l.transcript ≡ l.call-index) × (length l.calls < vec_capacity l.transcript) × ((x₀ : g.row.C.Denot) → Started M p x₀ l.initial.running → Going M p x₀ l.calls l.call-index (vec_items l.transcript) l.running)
