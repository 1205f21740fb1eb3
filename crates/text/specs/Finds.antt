-- The first place where something holds. Assumes nothing.
use Rattle.std.specs.Prelude.{ℕ, ◌<◌, Some, None, Option}

-- the first place where P holds, or none where it holds nowhere
abbrev pub Finds : (ℕ → Type 0) → Option ℕ → Type 0
Finds P None = (l : ℕ) → P l → ⊥
Finds P (Some l) = P l × ((k : ℕ) → k < l → P k → ⊥)
