-- Sessions: the calls, and what each does by the rules to the machine and to the cabinet. Assumes nothing.
use Rattle.std.specs.Prelude.{◌≡◌, ℕ, ◌+◌, Bool, true, cond, ◌⊎◌, List, [], ◌∷◌, ◌++◌, take, drop, ◌≢◌}
use Rattle.rules.specs.declared.refusal.Rule.TheVariants.{BlockStartOutsidePhase0, ReportOutsidePhase2}
use Rattle.rules.specs.declared.session.Phase.{Phase}
use Rattle.rules.specs.declared.session.Phase.TheVariants.{Idle, Preparing, Moving, Closing}
use Rattle.rules.specs.declared.session.Call.{Call}
use Rattle.rules.specs.declared.session.Call.TheVariants.{Scan, Clear, BlockStart, PositionReport, Halt}
use Rattle.rules.specs.declared.session.Answer.{Answer}
use Rattle.rules.specs.declared.session.Answer.TheVariants.{Scanned, Done, Refused}
use Rattle.rules.specs.Number.{bit}
use Rattle.rules.specs.Program.{Program, first, input_module, block_init, block_done, main_module, init_module, clear_module, halt_module}
use Rattle.rules.specs.declared.unit.UnitId.TheVariants.{Module, Mechanism}
use Rattle.rules.specs.Run.{Memory, with_bytes, Passes}
use Rattle.rules.specs.Cabinet.{Meaning, Sent, Advanced}

-- a started program between calls
pub record Machine : Type 0 where
  pub memory : Memory
  pub phase : Phase

-- the first line of each mechanism from number k on
abbrev pub first_lines : Program → ℕ → List ℕ → List ℕ
first_lines p k [] = []
first_lines p k (b ∷ bs) = first p (Mechanism k) ∷ first_lines p (k + 1) bs

-- the memory that a start sets: the initial bytes, and all points at first lines
abbrev pub fresh : Program → Memory
fresh p = record { bytes = p.initial; init_point = first p (Module block_init); done_point = first p (Module block_done); points = first_lines p 0 p.activation }

-- the eight output bytes
abbrev pub outputs : Memory → List ℕ
outputs m = take 8 (drop 8 m.bytes)

-- the memory with the eight input bytes read in
abbrev pub with_inputs : Memory → List ℕ → Memory
with_inputs m ins = with_bytes m (ins ++ drop 8 m.bytes)

-- ZAV_FCE
abbrev pub zav_fce : Memory → Bool
zav_fce m = bit m.bytes 128

-- the memory with the block modules' points at their first lines
abbrev pub block_points_back : Program → Memory → Memory
block_points_back p m = record { bytes = m.bytes; init_point = first p (Module block_init); done_point = first p (Module block_done); points = m.points }

-- the phase after a pass of BLOCK_INIT: its end gives phase 2
abbrev pub after_preparing : Bool → Phase
after_preparing whole = cond whole Moving Preparing

-- the phase after a pass of BLOCK_DONE: its end gives phase 0
abbrev pub after_closing : Bool → Phase
after_closing whole = cond whole Idle Closing

-- the phase after a position report, by ZAV_FCE: 3 where it is 1, else 0
abbrev pub after_report : Bool → Phase
after_report zav = cond zav Closing Idle

-- the block part of a scan: n steps from the memory m to m', and the phase before and after
pub data BlockPart (p : Program) (m : Memory) (n : ℕ) (m' : Memory) : (before after : Phase) → Type 0 where
  -- in phases 0 and 2 there is none
  idle : {b : Phase} → ((b ≡ Idle) ⊎ (b ≡ Moving)) → n ≡ 0 → m' ≡ m → BlockPart p m n m' b b
  -- phase 1 runs BLOCK_INIT
  prepares : {whole : Bool} {a : Phase} → Passes p (Module block_init) m n whole m' → a ≡ after_preparing whole → BlockPart p m n m' Preparing a
  -- phase 3 runs BLOCK_DONE
  closes : {whole : Bool} {a : Phase} → Passes p (Module block_done) m n whole m' → a ≡ after_closing whole → BlockPart p m n m' Closing a

-- a scan reads the inputs and runs INPUT, the block part and MAIN
pub record Scans (p : Program) (ins : List ℕ) (before : Machine) (steps : ℕ) (after : Machine) : Type 0 where
  pub after_input : Memory
  pub after_block : Memory
  pub input_steps : ℕ
  pub block_steps : ℕ
  pub main_steps : ℕ
  pub input_pass : Passes p (Module input_module) (with_inputs before.memory ins) input_steps true after_input
  pub block_part : BlockPart p after_input block_steps after_block before.phase after.phase
  pub main_pass : Passes p (Module main_module) after_block main_steps true after.memory
  pub counted : steps ≡ input_steps + block_steps + main_steps

-- clear runs CLEAR, then phase 0 is set and the block points return
pub record Clears (p : Program) (before after : Machine) : Type 0 where
  pub steps : ℕ
  pub cleared_memory : Memory
  pub clear_pass : Passes p (Module clear_module) before.memory steps true cleared_memory
  pub memory_is : after.memory ≡ block_points_back p cleared_memory
  pub phase_zero : after.phase ≡ Idle

-- halt runs HALT
pub record Halts (p : Program) (before after : Machine) : Type 0 where
  pub steps : ℕ
  pub halt_pass : Passes p (Module halt_module) before.memory steps true after.memory
  pub phase_stays : after.phase ≡ before.phase

-- the start sets the fresh memory and phase 0, runs INIT, and answers the phase
pub record Starts (p : Program) (answer : Answer) (after : Machine) : Type 0 where
  pub steps : ℕ
  pub init_pass : Passes p (Module init_module) (fresh p) steps true after.memory
  pub phase_zero : after.phase ≡ Idle
  pub answers : answer ≡ Done after.phase

-- what a call does to the machine and answers, given the input bytes that the cabinet then means
pub data Outcome (p : Program) (ins : List ℕ) (before : Machine) : Call → Answer → Machine → Type 0 where
  scans : {n : ℕ} {after : Machine} → Scans p ins before n after → Outcome p ins before Scan (Scanned n after.phase) after
  clears : {after : Machine} → Clears p before after → Outcome p ins before Clear (Done after.phase) after
  -- a block start sets phase 1 in phase 0, and is refused in any other
  starts_block : {after : Machine} → before.phase ≡ Idle → after ≡ record { memory = before.memory; phase = Preparing } → Outcome p ins before BlockStart (Done after.phase) after
  no_block : (before.phase ≢ Idle) → Outcome p ins before BlockStart (Refused BlockStartOutsidePhase0 before.phase) before
  -- a position report in phase 2 sets phase 3 when ZAV_FCE is 1, else 0, and is refused in any other phase
  reports : {after : Machine} → before.phase ≡ Moving → after ≡ record { memory = before.memory; phase = after_report (zav_fce before.memory) } → Outcome p ins before PositionReport (Done after.phase) after
  no_report : (before.phase ≢ Moving) → Outcome p ins before PositionReport (Refused ReportOutsidePhase2 before.phase) before
  halts : {after : Machine} → Halts p before after → Outcome p ins before Halt (Done after.phase) after

-- the calls so far with their answers, the newest first, and the last was no halt
abbrev pub Running : List (Call × Answer) → Type 0
Running [] = Unit {0}
Running (e ∷ es) = e.0 ≡ Halt → ⊥

-- over cabinets of any type with a meaning
module _ {X : Type 0} (M : Meaning X) where
  -- what a call that leaves the memory m does to the cabinet: a scan sends the outputs and advances, clear and halt send them, the others touch nothing
  abbrev pub CabinetAfter : Call → X → Memory → X → Type 0
  CabinetAfter Scan x m z = (y : X) × Sent M x (outputs m) y × Advanced M y z
  CabinetAfter Clear x m z = Sent M x (outputs m) z
  CabinetAfter BlockStart x m z = z ≡ x
  CabinetAfter PositionReport x m z = z ≡ x
  CabinetAfter Halt x m z = Sent M x (outputs m) z

  -- a session so far: its start with the start's answer, and the calls with their answers, the newest first; nothing follows a halt
  pub data Session (p : Program) (x₀ : X) (first_answer : Answer) : List (Call × Answer) → Machine → X → Type 0 where
    started : {after : Machine} {y : X} → Starts p first_answer after → Sent M x₀ (outputs after.memory) y → Session p x₀ first_answer [] after y
    called : {done : List (Call × Answer)} {before after : Machine} {x y : X} {c : Call} {r : Answer} → Session p x₀ first_answer done before x → Running done → Outcome p (M.inputs x) before c r after → CabinetAfter c x after.memory y → Session p x₀ first_answer ((c, r) ∷ done) after y
