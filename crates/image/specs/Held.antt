-- The program that a value of the reader stands for. Assumes nothing.
use Rattle.std.specs.Prelude.{vec_items}
use Rattle.rules.specs.Program as rules
use Rattle.image.specs.declared.program.Program.{Program}

-- the program of the rules that a program as read stands for
abbrev pub meant : Program → rules.Program
meant p = record { initial = vec_items p.initial; activation = vec_items p.activation; lengths = vec_items p.lengths; lines = vec_items p.lines }
