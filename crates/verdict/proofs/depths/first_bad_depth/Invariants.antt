use Rattle.std.proofs.Common.{ℕ, ◌<◌}
use Rattle.walk.specs.UnitTexts.{program_of, id_of}
use Rattle.verdict.specs.Depths.{IsBadIn}
use Rattle.verdict.proofs.depths.first_bad_depth.Given as goal

abbrev pub invariant-loop-l : goal.invariant-loop-l
invariant-loop-l l = (k : ℕ) → k < l.l → IsBadIn (program_of l.unit) (id_of l.unit) k → ⊥
