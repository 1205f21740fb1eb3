-- The program and the unit that a unit's text stands for. Assumes nothing.
use Rattle.rules.specs.declared.unit.UnitId.{UnitId}
use Rattle.rules.specs.Named.{unit_named}
use Rattle.rules.specs.Program.{Program}
use Rattle.image.specs.Held.{meant}
use Rattle.walk.specs.declared.unit_text.UnitText.{UnitText}

-- the program whose unit it is
abbrev pub program_of : UnitText → Program
program_of u = meant u.formed.now.layout.program

-- which unit it is
abbrev pub id_of : UnitText → UnitId
id_of u = unit_named u.id
