-- A program's parts, its units and their lines. Assumes nothing.
use Rattle.std.specs.Prelude.{◌≡◌, ℕ, ◌+◌, ◌-◌, ◌<◌, Bool, true, false, cond, ◌&&◌, ◌||◌, List, [], ◌∷◌, length, take, replicate, Some, None, Option, ◌==◌, nat_lt, slice_index_or, slice_range}
use Rattle.rules.specs.declared.line.Line.{Line}
use Rattle.rules.specs.declared.unit.UnitId.{UnitId}
use Rattle.rules.specs.declared.unit.UnitId.TheVariants.{Module, Mechanism}
use Rattle.rules.specs.declared.op.Op.{Op}
use Rattle.rules.specs.declared.op.Mnemonic.TheVariants as name
use Rattle.rules.specs.Op.{is, is_begin, is_end, is_jump, is_exit, decode}

-- a program: its initial data bytes, the address of each mechanism's activation bit, the number of lines of each module, and the lines
pub record Program : Type 0 where
  pub initial : List ℕ
  pub activation : List ℕ
  pub lengths : List ℕ
  pub lines : List Line

-- the null program: 17 data bytes of 0, no mechanism, and seven modules without a line
abbrev pub null_program : Program
null_program = record { initial = replicate 17 0; activation = []; lengths = replicate 7 0; lines = [] }

-- what stands where no line is: a line of no code
abbrev pub no_line : Line
no_line = record { code = 0; mode = 0; operand = 0 }

-- the line of a number
abbrev pub line_at : Program → ℕ → Line
line_at p l = slice_index_or p.lines l no_line

-- the operation of that line, if it has one
abbrev pub op_at : Program → ℕ → Option Op
op_at p l = decode (line_at p l)

-- numbers added up
abbrev pub total : List ℕ → ℕ
total [] = 0
total (n ∷ ns) = n + total ns

-- The modules go by their numbers, in the order of the text.

-- INPUT
abbrev pub input_module : ℕ
input_module = 0

-- BLOCK_INIT
abbrev pub block_init : ℕ
block_init = 1

-- BLOCK_DONE
abbrev pub block_done : ℕ
block_done = 2

-- MAIN
abbrev pub main_module : ℕ
main_module = 3

-- INIT
abbrev pub init_module : ℕ
init_module = 4

-- CLEAR
abbrev pub clear_module : ℕ
clear_module = 5

-- HALT
abbrev pub halt_module : ℕ
halt_module = 6

-- a module's first line
abbrev pub module_first : Program → ℕ → ℕ
module_first p m = total (take m p.lengths)

-- a module's end: the line after its last
abbrev pub module_end : Program → ℕ → ℕ
module_end p m = total (take (m + 1) p.lengths)

-- the module that has line l
abbrev pub module_of : List ℕ → ℕ → ℕ
module_of [] l = 0
module_of (n ∷ ns) l = cond (nat_lt l n) 0 (1 + module_of ns (l - n))

-- the mechanism that is open after some lines: the last one begun and not ended
abbrev pub open_after : Option ℕ → List Line → Option ℕ
open_after o [] = o
open_after o (x ∷ xs) = open_after (cond (is_begin x) (Some x.operand) (cond (is_end x) None o)) xs

-- the part of a list from place f up to place n
abbrev pub stretch : {A : Type 0} → List A → ℕ → ℕ → List A
stretch xs f n = slice_range xs f n

-- the mechanism that is open as line l of MAIN is reached in the text
abbrev pub open_at : Program → ℕ → Option ℕ
open_at p l = open_after None (stretch p.lines (module_first p main_module) l)

-- the mechanism that is open, or else MAIN
abbrev pub main_or : Option ℕ → UnitId
main_or None = Module main_module
main_or (Some k) = Mechanism k

-- the unit that line l belongs to: MAIN leaves its mechanisms out
abbrev pub unit_of : Program → ℕ → UnitId
unit_of p l = let m = module_of p.lengths l in cond (m == main_module) (main_or (open_at p l)) (Module m)

-- line l is one of unit u's own
pub record Own (p : Program) (u : UnitId) (l : ℕ) : Type 0 where
  pub within : l < length p.lines
  pub part : unit_of p l ≡ u

-- the place of the first line that passes a test
abbrev pub find : (Line → Bool) → List Line → ℕ
find f [] = 0
find f (x ∷ xs) = cond (f x) 0 (1 + find f xs)

-- the MECH_BEGIN of mechanism k
abbrev pub begin_line : Program → ℕ → ℕ
begin_line p k = find (λ x. is_begin x && x.operand == k) p.lines

-- the MECH_END of mechanism k
abbrev pub end_line : Program → ℕ → ℕ
end_line p k = find (λ x. is_end x && x.operand == k) p.lines

-- a unit's first line
abbrev pub first : Program → UnitId → ℕ
first p (Module m) = module_first p m
first p (Mechanism k) = begin_line p k + 1

-- a unit's end: the line after its last
abbrev pub end : Program → UnitId → ℕ
end p (Module m) = module_end p m
end p (Mechanism k) = end_line p k + 1

-- the line that follows l in its unit: after MECH_BEGIN comes the line after its MECH_END
abbrev pub after : Program → ℕ → ℕ
after p l = let x = line_at p l in cond (is_begin x) (end_line p x.operand + 1) (l + 1)

-- a unit that the program has
abbrev pub Real : Program → UnitId → Type 0
Real p (Module m) = m < length p.lengths
Real p (Mechanism k) = k < length p.activation

-- the sequential units are BLOCK_INIT, BLOCK_DONE and the mechanisms
abbrev pub sequential : UnitId → Bool
sequential (Module m) = m == block_init || m == block_done
sequential (Mechanism k) = true

-- the lines that clear the text flag: MECH_BEGIN, MECH_END, the jumps, the EX-type lines, WR and FL1
abbrev pub clears_flag : Line → Bool
clears_flag x = is_begin x || is_end x || is_jump x || is_exit x || is name.Wr x || is name.Fl1 x

-- the text flag after some lines: LDR sets it, and the lines above clear it
abbrev pub flag_after : Bool → List Line → Bool
flag_after b [] = b
flag_after b (x ∷ xs) = flag_after (cond (clears_flag x) false (is name.Ldr x || b)) xs

-- the text flag at a line follows the text from the first line of its module, which finds it clear
abbrev pub flag_at : Program → ℕ → Bool
flag_at p l = flag_after false (stretch p.lines (module_first p (module_of p.lengths l)) l)

-- whether a line pushes: LDR does where the flag is set
abbrev pub pushes : Program → ℕ → Bool
pushes p l = is name.Ldr (line_at p l) && flag_at p l

-- whether a line pops: LA, LO and LX do at mode 2
abbrev pub pops : Program → ℕ → Bool
pops p l = let x = line_at p l in (x.mode == 2) && (is name.La x || is name.Lo x || is name.Lx x)
