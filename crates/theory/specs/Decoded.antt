-- A line that is decoded has the code of its operation, its operand, and its way with the stack: the one tie between the tests of lines by their
-- codes and the operations. Assumes nothing.
use Rattle.std.specs.Prelude.{◌≡◌, ℕ, Bool, true, false, ◌&&◌, ◌||◌, Some, ◌==◌}
use Rattle.rules.specs.declared.line.Line.{Line}
use Rattle.rules.specs.declared.op.Op.{Op}
use Rattle.rules.specs.declared.op.Mnemonic.TheVariants as name
use Rattle.rules.specs.declared.op.Op.TheVariants.{Ldr, Combine, CombineCell, Ca, Wr, Fl, Fl1, Jl, Ex, ExIf, Lod, Sto, Ad, Ge, Abs, MechBegin, MechEnd, MechInit}
use Rattle.rules.specs.Op.{code_of, name_of, decode}

-- the number that an operation names, or the one given where it names none
abbrev pub arg_of : Op → ℕ → ℕ
arg_of (Ldr s a) d = a
arg_of (Combine f s a) d = a
arg_of (CombineCell f) d = d
arg_of Ca d = d
arg_of (Wr a) d = a
arg_of (Fl v a) d = a
arg_of (Fl1 v a) d = a
arg_of (Jl w t) d = t
arg_of Ex d = d
arg_of (ExIf w) d = d
arg_of (Lod w a) d = a
arg_of (Sto w a) d = a
arg_of (Ad w a) d = a
arg_of (Abs w) d = d
arg_of (Ge w a) d = a
arg_of (MechBegin k) d = k
arg_of (MechEnd k) d = k
arg_of (MechInit k) d = k

-- the operations that pop a cell
abbrev pub pop_of : Op → Bool
pop_of (Ldr s a) = false
pop_of (Combine f s a) = false
pop_of (CombineCell f) = true
pop_of Ca = false
pop_of (Wr a) = false
pop_of (Fl v a) = false
pop_of (Fl1 v a) = false
pop_of (Jl w t) = false
pop_of Ex = false
pop_of (ExIf w) = false
pop_of (Lod w a) = false
pop_of (Sto w a) = false
pop_of (Ad w a) = false
pop_of (Abs w) = false
pop_of (Ge w a) = false
pop_of (MechBegin k) = false
pop_of (MechEnd k) = false
pop_of (MechInit k) = false

-- the codes of the lines that pop at mode 2
abbrev pub cell_code : ℕ → Bool
cell_code c = c == code_of name.La || c == code_of name.Lo || c == code_of name.Lx

-- what a line says of its operation
pub record Says (x : Line) (o : Op) : Type 0 where
  pub code_is : x.code ≡ code_of (name_of o)
  pub arg_is : x.operand ≡ arg_of o x.operand
  pub pop_is : (x.mode == 2 && cell_code x.code) ≡ pop_of o

-- every decoded line says its operation
abbrev pub LinesSay : Type 0
LinesSay = (x : Line) (o : Op) → decode x ≡ Some o → Says x o
