-- The rules of the shape and of the text that need no route: when they are kept, and at which line they are broken. Assumes nothing.
use Rattle.std.specs.Prelude.{◌≡◌, ℕ, ◌+◌, ◌*◌, ◌<◌, ◌≤◌, true, false, ◌⊎◌, List, length, Some, None, Option, ◌≢◌, slice_index}
use Rattle.rules.specs.declared.line.Line.{Line}
use Rattle.rules.specs.declared.op.Op.{Op}
use Rattle.rules.specs.declared.op.Op.TheVariants.{Ldr, Combine, CombineCell, Ca, Wr, Fl, Fl1, Jl, Ex, ExIf, Lod, Sto, Ad, Ge, Abs, MechBegin, MechEnd, MechInit}
use Rattle.rules.specs.Op.{bytes_of, is_begin, is_end, is_init, is_jump, is_exit}
use Rattle.rules.specs.Number.{Bytes}
use Rattle.rules.specs.Program.{Program, Own, line_at, op_at, total, module_of, module_end, main_module, init_module, clear_module, open_at, unit_of, end, sequential}
use Rattle.rules.specs.declared.unit.UnitId.{UnitId}
use Rattle.rules.specs.declared.unit.UnitId.TheVariants.{Module, Mechanism}
use Rattle.rules.specs.Image.{Section, data_section, mechanism_section, module_section, line_section, least_count, most_count}

-- how many records a program has in a section
abbrev pub records : Program → Section → ℕ
records p data_section = length p.initial
records p mechanism_section = length p.activation
records p module_section = length p.lengths
records p line_section = length p.lines

-- a count in the range of its section
abbrev pub InRange : Section → ℕ → Type 0
InRange s n = (least_count s ≤ n) × (n ≤ most_count s)

-- activation bits that stand inside so many data bytes
abbrev pub BitsInside : List ℕ → ℕ → Type 0
BitsInside activation d = (k : ℕ) → k < length activation → slice_index activation k < 8 * d

-- the shape of a program, as the rules of the image leave it
pub record Shaped (p : Program) : Type 0 where
  -- each section has as many records as its range allows
  pub counts : (s : Section) → InRange s (records p s)
  -- the data are bytes
  pub bytes_small : Bytes p.initial
  -- the activation bits stand inside the data
  pub activation_inside : BitsInside p.activation (length p.initial)
  -- the modules have all the lines
  pub all_lines : total p.lengths ≡ length p.lines

-- a line whose code and mode name no operation
abbrev pub Unknown : Program → ℕ → Type 0
Unknown p l = (l < length p.lines) × (op_at p l ≡ None)

-- an operation's operand serves: a bit below 8 × D, a number wholly inside the D bytes, a mechanism below M, and 0 where there is none
abbrev pub Reaches : Program → Line → Option Op → Type 0
Reaches p x None = Unit {0}
Reaches p x (Some (Ldr s b)) = b < 8 * length p.initial
Reaches p x (Some (Combine f s b)) = b < 8 * length p.initial
Reaches p x (Some (CombineCell f)) = x.operand ≡ 0
Reaches p x (Some Ca) = x.operand ≡ 0
Reaches p x (Some (Wr b)) = b < 8 * length p.initial
Reaches p x (Some (Fl v b)) = b < 8 * length p.initial
Reaches p x (Some (Fl1 v b)) = b < 8 * length p.initial
Reaches p x (Some (Jl w t)) = Unit {0}
Reaches p x (Some Ex) = x.operand ≡ 0
Reaches p x (Some (ExIf w)) = x.operand ≡ 0
Reaches p x (Some (Lod w a)) = a + bytes_of w ≤ length p.initial
Reaches p x (Some (Sto w a)) = a + bytes_of w ≤ length p.initial
Reaches p x (Some (Ad w a)) = a + bytes_of w ≤ length p.initial
Reaches p x (Some (Ge w a)) = a + bytes_of w ≤ length p.initial
Reaches p x (Some (Abs w)) = x.operand ≡ 0
Reaches p x (Some (MechBegin k)) = k < length p.activation
Reaches p x (Some (MechEnd k)) = k < length p.activation
Reaches p x (Some (MechInit k)) = k < length p.activation

-- a line whose operand does not serve
abbrev pub IsBadOperand : Program → ℕ → Type 0
IsBadOperand p l = (l < length p.lines) × (Reaches p (line_at p l) (op_at p l) → ⊥)

-- line l, anywhere in the text, is the MECH_BEGIN of mechanism k
abbrev pub Begun : Program → ℕ → ℕ → Type 0
Begun p k l = (l < length p.lines) × (is_begin (line_at p l) ≡ true) × ((line_at p l).operand ≡ k)

-- a mechanism begun outside MAIN, nested, or begun twice
abbrev pub IsBadBegin : Program → ℕ → Type 0
IsBadBegin p l = (is_begin (line_at p l) ≡ true) × ((module_of p.lengths l ≢ main_module) ⊎ (open_at p l ≢ None) ⊎ ((j : ℕ) × (j < l) × Begun p (line_at p l).operand j))

-- a mechanism ended outside MAIN, unopened, or under another number
abbrev pub IsBadEnd : Program → ℕ → Type 0
IsBadEnd p l = (is_end (line_at p l) ≡ true) × ((module_of p.lengths l ≢ main_module) ⊎ (open_at p l ≢ Some (line_at p l).operand))

-- a mechanism left open at MAIN's end, or begun nowhere: placed at MAIN's end
abbrev pub LeftOver : Program → ℕ → Type 0
LeftOver p l = (l ≡ module_end p main_module) × ((open_at p l ≢ None) ⊎ ((k : ℕ) × (k < length p.activation) × ((j : ℕ) → Begun p k j → ⊥)))

-- a place where a mechanism is begun, ended, left open or missing against the rule
abbrev pub IsBadMechanism : Program → ℕ → Type 0
IsBadMechanism p l = ((l < length p.lines) × (IsBadBegin p l ⊎ IsBadEnd p l)) ⊎ LeftOver p l

-- line t of a unit, or its end; a mechanism's jump reaches its MECH_END at most
abbrev pub Lands : Program → ℕ → UnitId → Type 0
Lands p t (Module m) = Own p (Module m) t ⊎ (t ≡ end p (Module m))
Lands p t (Mechanism k) = Own p (Mechanism k) t

-- a jump not to a later line or the end of its unit
abbrev pub IsBadJump : Program → ℕ → Type 0
IsBadJump p l = (l < length p.lines) × (is_jump (line_at p l) ≡ true) × ((l < (line_at p l).operand) × Lands p (line_at p l).operand (unit_of p l) → ⊥)

-- an EX-type line outside a sequential unit
abbrev pub IsBadExit : Program → ℕ → Type 0
IsBadExit p l = (l < length p.lines) × (is_exit (line_at p l) ≡ true) × (sequential (unit_of p l) ≡ false)

-- a MECH_INIT outside INIT and CLEAR
abbrev pub IsBadInit : Program → ℕ → Type 0
IsBadInit p l = (l < length p.lines) × (is_init (line_at p l) ≡ true) × (unit_of p l ≢ Module init_module) × (unit_of p l ≢ Module clear_module)
