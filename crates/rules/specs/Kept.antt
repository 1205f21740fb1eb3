-- What a certificate promises of every session. Assumes nothing.
use Rattle.std.specs.Prelude.{◌≡◌, ℕ, ◌≤◌, Bool, true, ◌⊎◌, List, [], ◌∷◌, length}
use Rattle.rules.specs.Number.{Bytes}
use Rattle.rules.specs.Program.{Program, Real, sequential, input_module, block_init, block_done, main_module, init_module, clear_module, halt_module}
use Rattle.rules.specs.declared.unit.UnitId.{UnitId}
use Rattle.rules.specs.declared.unit.UnitId.TheVariants.{Module}
use Rattle.rules.specs.Route.{Entry}
use Rattle.rules.specs.Run.{Memory, point, over, Config, enter, Step, Runs, Passes}
use Rattle.rules.specs.Cabinet.{Meaning}
use Rattle.rules.specs.declared.session.Phase.{Phase}
use Rattle.rules.specs.declared.session.Phase.TheVariants.{Idle, Preparing, Closing}
use Rattle.rules.specs.declared.session.Call.{Call}
use Rattle.rules.specs.declared.session.Answer.{Answer}
use Rattle.rules.specs.declared.session.Answer.TheVariants.{Scanned, Done, Refused}
use Rattle.rules.specs.Session.{Machine, fresh, outputs, with_inputs, BlockPart, Starts, Outcome, Session}

-- each sequential unit's point is its first line or directly after one of its own EX-type lines
abbrev pub Pointed : Program → Memory → Type 0
Pointed p m = (u : UnitId) → Real p u → sequential u ≡ true → Entry p u (point p m u)

-- the pass of unit u from the memory m: no step is without a rule, no more than `stack` cells are stacked, each unit is entered at
-- its first line or directly after one of its own EX-type lines, and the pass comes to its end within as many steps as there are lines
pub record Ruled (p : Program) (stack : ℕ) (u : UnitId) (m : Memory) : Type 0 where
  pub goes_on : (n : ℕ) (c : Config) → Runs p (enter p u m) n c → ((b : Bool) × (c.place ≡ over b)) ⊎ ((d : Config) × Step p c d)
  pub cells_held : (n : ℕ) (c : Config) → Runs p (enter p u m) n c → length c.registers.cells ≤ stack
  pub pointed : (n : ℕ) (c : Config) → Runs p (enter p u m) n c → Pointed p c.memory
  pub bounded : (n : ℕ) (c : Config) → Runs p (enter p u m) n c → n ≤ length p.lines
  pub comes_to_end : (n : ℕ) × (whole : Bool) × (m' : Memory) × Passes p u m n whole m'

-- a pass that the next call of a machine runs, whichever call it is: unit u from the memory m
pub data RunsPass (p : Program) (before : Machine) (ins : List ℕ) (u : UnitId) (m : Memory) : Type 0 where
  for_input : u ≡ Module input_module → m ≡ with_inputs before.memory ins → RunsPass p before ins u m
  for_block : {a : ℕ} → Passes p (Module input_module) (with_inputs before.memory ins) a true m → ((before.phase ≡ Preparing) × (u ≡ Module block_init)) ⊎ ((before.phase ≡ Closing) × (u ≡ Module block_done)) → RunsPass p before ins u m
  for_main : {a b : ℕ} {q : Phase} {m₁ : Memory} → Passes p (Module input_module) (with_inputs before.memory ins) a true m₁ → BlockPart p m₁ b m before.phase q → u ≡ Module main_module → RunsPass p before ins u m
  for_clear : u ≡ Module clear_module → m ≡ before.memory → RunsPass p before ins u m
  for_halt : u ≡ Module halt_module → m ≡ before.memory → RunsPass p before ins u m

-- the scans among some calls have at most n steps
abbrev pub Within : ℕ → List (Call × Answer) → Type 0
Within n [] = Unit {0}
Within n ((c, Scanned k q) ∷ done) = (k ≤ n) × Within n done
Within n ((c, Done q) ∷ done) = Within n done
Within n ((c, Refused k q) ∷ done) = Within n done

-- the start has one outcome by the rules, and no other
pub record OneStart (p : Program) : Type 0 where
  pub answer : Answer
  pub machine_after : Machine
  pub starts : Starts p answer machine_after
  pub no_other : (r : Answer) (m : Machine) → Starts p r m → (r ≡ answer) × (m ≡ machine_after)

-- a call has one outcome by the rules, and no other
pub record OneOutcome (p : Program) (ins : List ℕ) (before : Machine) (c : Call) : Type 0 where
  pub answer : Answer
  pub machine_after : Machine
  pub comes : Outcome p ins before c answer machine_after
  pub no_other : (r : Answer) (m : Machine) → Outcome p ins before c r m → (r ≡ answer) × (m ≡ machine_after)

-- what holds at every state of a session, be it after the start or after a call
pub record Kept {X : Type 0} (M : Meaning X) (p : Program) (stack scan : ℕ) (first_answer : Answer) (done : List (Call × Answer)) (machine : Machine) (x : X) : Type 0 where
  -- every pass of whichever call comes next has a rule for each step
  pub ruled : (u : UnitId) (m : Memory) → RunsPass p machine (M.inputs x) u m → Ruled p stack u m
  -- no scan so far had more steps than the certificate says
  pub scans_within : Within scan done
  -- the terminals are the outputs
  pub shown : M.terminals x ≡ outputs machine.memory
  -- the data are as many as at first, and bytes
  pub as_many : length machine.memory.bytes ≡ length p.initial
  pub bytes_small : Bytes machine.memory.bytes
  -- the start was answered by phase 0
  pub start_answered : first_answer ≡ Done Idle
  -- whichever call comes next has one outcome
  pub one_outcome : (c : Call) → OneOutcome p (M.inputs x) machine c

-- the whole promise of an accepted program's certificate, over all cabinets of a meaning
pub record Guaranteed {X : Type 0} (M : Meaning X) (p : Program) (stack scan : ℕ) : Type 0 where
  pub at_most_eight : stack ≤ 8
  pub one_start : OneStart p
  pub start_ruled : Ruled p stack (Module init_module) (fresh p)
  pub kept : (x₀ : X) (first_answer : Answer) (done : List (Call × Answer)) (machine : Machine) (x : X) → Session M p x₀ first_answer done machine x → Kept M p stack scan first_answer done machine x
