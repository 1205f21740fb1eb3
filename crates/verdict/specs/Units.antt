-- The units of a program in a row, and the earlier of two places. Assumes nothing.
use Rattle.std.specs.Prelude.{ℕ, ◌-◌, ◌<◌, min, cond, Some, None, Option, nat_lt}
use Rattle.rules.specs.declared.unit.UnitId.{UnitId}
use Rattle.rules.specs.declared.unit.UnitId.TheVariants.{Module, Mechanism}
use Rattle.rules.specs.Program.{Program, Real}
use Rattle.verdict.specs.Depths.{IsBadIn}

-- the units in a row: the seven modules, then the mechanisms
abbrev pub nth_unit : ℕ → UnitId
nth_unit i = cond (nat_lt i 7) (Module i) (Mechanism (i - 7))

-- the earlier of two places, where there is one
abbrev pub earliest : Option ℕ → Option ℕ → Option ℕ
earliest None b = b
earliest (Some a) None = Some a
earliest (Some a) (Some b) = Some (min a b)

-- a place that is bad in one of the first n units of the row
pub record IsBadAmong (p : Program) (n l : ℕ) : Type 0 where
  pub nth : ℕ
  pub before : nth < n
  pub real : Real p (nth_unit nth)
  pub bad : IsBadIn p (nth_unit nth) l
