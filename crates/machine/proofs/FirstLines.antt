-- The points at first lines, as a list by number. Assumes nothing.
use Rattle.std.proofs.Common.{◌≡◌, ℕ, ◌+◌, List, [], ◌∷◌, length, map, refl, ap}
use Rattle.std.specs.List.{range_with_len}
use Rattle.rules.specs.declared.unit.UnitId.TheVariants.{Mechanism}
use Rattle.rules.specs.Program.{Program, first}
use Rattle.rules.specs.Session.{first_lines}

pub first_lines_are : (p : Program) (k : ℕ) (activation : List ℕ) → first_lines p k activation ≡ map (λ j. first p (Mechanism j)) (range_with_len k (length activation))
first_lines_are p k [] = refl
first_lines_are p k (b ∷ bs) = ap (λ (xs : List ℕ). first p (Mechanism k) ∷ xs) (first_lines_are p (k + 1) bs)
