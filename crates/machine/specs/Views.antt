-- The memory, a place and all that a pass holds as the rules have them. Assumes nothing.
use Rattle.std.specs.Prelude.{◌≡◌, ℕ, ◌+◌, ◌<◌, length, vec_items, vec_len}
use Rattle.rules.specs.Program.{Program, after}
use Rattle.rules.specs.Run as rules
use Rattle.rules.specs.Run.{at, over}
use Rattle.rules.specs.declared.unit.UnitId.{UnitId}
use Rattle.rules.specs.declared.unit.UnitId.TheVariants.{Module, Mechanism}
use Rattle.image.specs.Held.{meant}
use Rattle.verdict.specs.declared.accepted.Accepted.{Accepted}
use Rattle.lines.specs.declared.turn.Turn.{Turn}
use Rattle.lines.specs.declared.turn.Turn.TheVariants.{Follows, Goes, Stops, Waits, Resumes, Enters, Skips, Resets}
use Rattle.machine.specs.declared.memory.Memory.{Memory}
use Rattle.machine.specs.declared.place.Place.{Place}
use Rattle.machine.specs.declared.place.Place.TheVariants.{At, Over}

-- the program of the rules that an accepted program stands for
abbrev pub program_of : Accepted → Program
program_of a = meant a.formed.layout.program

-- the memory of the rules
abbrev pub memory_of : Memory → rules.Memory
memory_of m = record { bytes = vec_items m.bytes; init_point = m.init_point; done_point = m.done_point; points = vec_items m.points }

-- the place of the rules, in the unit that control is in
abbrev pub place_of : UnitId → Place → rules.Place
place_of u (At l) = at u l
place_of u (Over whole) = over whole

-- a memory has the point of a unit: each module's, and a mechanism's that it has one for
abbrev pub HasPoint : Memory → UnitId → Type 0
HasPoint m (Module n) = Unit {0}
HasPoint m (Mechanism k) = k < vec_len m.points

-- what a turn after line l asks of the program: the line that follows is the next one where control goes there, and a mechanism named is one of the program's
abbrev pub Serves : Program → ℕ → Turn → Type 0
Serves p l Follows = after p l ≡ l + 1
Serves p l (Goes t) = Unit {0}
Serves p l Stops = after p l ≡ l + 1
Serves p l Waits = Unit {0}
Serves p l Resumes = after p l ≡ l + 1
Serves p l (Enters k) = k < length p.activation
Serves p l (Skips k) = k < length p.activation
Serves p l (Resets k) = (k < length p.activation) × (after p l ≡ l + 1)
