use Rattle.std.proofs.Common.{◌≡◌, ℕ, ◌*◌, ◌<◌, ◌≤◌, get_or, take, vec_items, vec_len}
use Rattle.rules.specs.Program.{total}
use Rattle.text.proofs.tables.starts.Given as goal

abbrev pub invariant-loop-length : goal.invariant-loop-length
invariant-loop-length l =
    (vec_len l.starts ≡ l.length-index) × (l.sum ≤ 65535 * l.length-index) × (l.sum ≡ total (take l.length-index (vec_items l.program.lengths)))
    × ((m : ℕ) → m < l.length-index → get_or (vec_items l.starts) m 0 ≡ total (take m (vec_items l.program.lengths)))
