-- The lines of a text whose unit and text flag have been found. Assumes nothing.
use Rattle.std.specs.Prelude.{◌≡◌, ℕ, ◌<◌, false, List, length, slice_index_or}
use Rattle.rules.specs.declared.unit.Module.TheVariants.{Input}
use Rattle.rules.specs.declared.unit.NamedUnit.TheVariants.{Module}
use Rattle.rules.specs.Named.{unit_named}
use Rattle.rules.specs.Program.{Program, unit_of, flag_at}
use Rattle.text.specs.declared.marks.Mark.{Mark}

-- what stands where no line is marked
abbrev pub no_mark : Mark
no_mark = record { unit = Module Input; flag = false }

-- the mark of line l
abbrev pub mark_at : List Mark → ℕ → Mark
mark_at marks l = slice_index_or marks l no_mark

-- the first n lines, and no other, have their marks
pub record Marked (p : Program) (marks : List Mark) (n : ℕ) : Type 0 where
  pub count : length marks ≡ n
  pub units_are : (l : ℕ) → l < n → unit_named (mark_at marks l).unit ≡ unit_of p l
  pub flags_are : (l : ℕ) → l < n → (mark_at marks l).flag ≡ flag_at p l
