-- A unit that a program has, by its number among those of its kind, and where it stands. Assumes nothing.
use Rattle.std.specs.Prelude.{◌≡◌, ℕ, ◌<◌, length}
use Rattle.rules.specs.declared.unit.UnitId.{UnitId}
use Rattle.rules.specs.declared.unit.UnitId.TheVariants.{Module, Mechanism}
use Rattle.rules.specs.Program.{Program, first, end}

-- a unit's number among the modules or among the mechanisms
abbrev pub number_of : UnitId → ℕ
number_of (Module m) = m
number_of (Mechanism k) = k

-- how many units of its kind the program has
abbrev pub kind_count : Program → UnitId → ℕ
kind_count p (Module m) = length p.lengths
kind_count p (Mechanism k) = length p.activation

-- the program has the unit: `Real` as one inequality, which a type can carry
abbrev pub Had : Program → UnitId → Type 0
Had p u = number_of u < kind_count p u

-- line l is the unit's first
abbrev pub BeginsAt : Program → UnitId → ℕ → Type 0
BeginsAt p u l = l ≡ first p u

-- line l is the unit's end, the line after its last
abbrev pub EndsAt : Program → UnitId → ℕ → Type 0
EndsAt p u l = l ≡ end p u
