-- The registers, the turn and the effect of a line as the rules have them. Assumes nothing.
use Rattle.std.specs.Prelude.{ℕ, Bool, false, List, [], reverse, take, Some, None, Option}
use Rattle.rules.specs.declared.op.Op.{Op}
use Rattle.rules.specs.Effect as rules
use Rattle.rules.specs.Effect.{follows, goes, stops, waits, resumes, enters, skips, resets, Done, keeping, effect}
use Rattle.lines.specs.declared.registers.Registers.{Registers}
use Rattle.lines.specs.declared.stack.Stack.{Stack}
use Rattle.lines.specs.declared.turn.Turn.{Turn}
use Rattle.lines.specs.declared.turn.Turn.TheVariants.{Follows, Goes, Stops, Waits, Resumes, Enters, Skips, Resets}

-- the bits of a stack, the newest first
abbrev pub bits_of : Stack → List Bool
bits_of s = reverse (take s.depth s.cells)

-- the stacked cells, the newest first
abbrev pub cells_of : Registers → List Bool
cells_of r = bits_of r.stack

-- the registers of the rules
abbrev pub registers_of : Registers → rules.Registers
registers_of r = record { rlo = r.rlo; dr = r.dr; cells = cells_of r }

-- the turn of the rules
abbrev pub turn_of : Turn → rules.Turn
turn_of Follows = follows
turn_of (Goes t) = goes t
turn_of Stops = stops
turn_of Waits = waits
turn_of Resumes = resumes
turn_of (Enters k) = enters k
turn_of (Skips k) = skips k
turn_of (Resets k) = resets k

-- what a line has done: the registers, the data and the turn after it
abbrev pub done : Registers → List ℕ → Turn → Option Done
done r bytes t = Some (keeping (registers_of r) bytes (turn_of t))

-- what an operation does that depends on neither the text flag nor the activation bits
abbrev pub alone : Op → rules.Registers → List ℕ → Option Done
alone o r bytes = effect false [] o r bytes

-- what a line does, if it names an operation
abbrev pub line_effect : (flagged : Bool) (activation : List ℕ) → Option Op → rules.Registers → List ℕ → Option Done
line_effect f activation None r bytes = None
line_effect f activation (Some o) r bytes = effect f activation o r bytes

-- a rule exists
abbrev pub HasRule : {A : Type 0} → Option A → Type 0
HasRule None = ⊥
HasRule (Some x) = Unit {0}
