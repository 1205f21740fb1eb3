use Rattle.std.proofs.Common.{◌≡◌, ℕ, ◌*◌, ◌/◌, ◌<◌, ◌≤◌, length, get_or, take}
use Rattle.rules.specs.Program.{total}
use Rattle.rules.specs.Image.{pairs_from}
use Rattle.image.proofs.records.unit_starts.Given as goal

abbrev pub invariant-loop-i : goal.invariant-loop-i
invariant-loop-i l =
    let lengths = pairs_from l.modules 0 (length l.modules / 2) in
    (length l.starts ≡ 7) × (l.sum ≤ 65535 * l.i) × (l.sum ≡ total (take l.i lengths)) × ((m : ℕ) → m < l.i → get_or l.starts m 0 ≡ total (take m lengths))
