-- The theorems of the rules. Assumes nothing.
use Rattle.std.specs.Prelude.{◌≡◌, ℕ, ◌<◌, ◌≤◌, Bool, true, false, List, [], ◌∷◌, length}
use Rattle.rules.specs.Program.{Program, Real, sequential}
use Rattle.rules.specs.declared.unit.UnitId.{UnitId}
use Rattle.rules.specs.declared.unit.UnitId.TheVariants.{Module}
use Rattle.rules.specs.Route.{ScanTakes}
use Rattle.rules.specs.Verdict.{Formed, Accepted, Certified}
use Rattle.rules.specs.Run.{Memory, Config, enter, Step, Runs, Passes}
use Rattle.rules.specs.Cabinet.{Meaning, Lawful, Serving}
use Rattle.rules.specs.declared.session.Call.{Call}
use Rattle.rules.specs.declared.session.Answer.{Answer}
use Rattle.rules.specs.Session.{Machine, Scans, Outcome, Running, Session}
use Rattle.rules.specs.Kept.{Ruled, Guaranteed}
use Rattle.theory.specs.Standing.{Fitting, Routed}

-- at most one thing can happen next
abbrev pub StepsAlike : Type 0
StepsAlike = (p : Program) (c d e : Config) → Step p c d → Step p c e → d ≡ e

-- after so many steps a run is at one place only
abbrev pub RunsAlike : Type 0
RunsAlike = (p : Program) (c d e : Config) (n : ℕ) → Runs p c n d → Runs p c n e → d ≡ e

-- a pass has one length, one ending and one memory after it
abbrev pub PassesAlike : Type 0
PassesAlike =
    (p : Program) (u : UnitId) (m : Memory) (n₁ n₂ : ℕ) (b₁ b₂ : Bool) (m₁ m₂ : Memory) →
    Passes p u m n₁ b₁ m₁ → Passes p u m n₂ b₂ m₂ → (n₁ ≡ n₂) × (b₁ ≡ b₂) × (m₁ ≡ m₂)

-- a call has one answer and one machine after it
abbrev pub OutcomesAlike : Type 0
OutcomesAlike =
    (p : Program) (ins : List ℕ) (before : Machine) (c : Call) (r s : Answer) (m n : Machine) →
    Outcome p ins before c r m → Outcome p ins before c s n → (r ≡ s) × (m ≡ n)

-- a run of a formed program is on a route, and a finished pass has taken one
abbrev pub RunsAreRoutes : Type 0
RunsAreRoutes =
    (p : Program) (t : ℕ) (m : Memory) → Formed p → t < length p.lengths → Fitting p m →
    (k : ℕ) (c : Config) → Runs p (enter p (Module t) m) k c → Routed p t k c.place c.registers.cells

-- the steps of a scan are those of a scan's routes
abbrev pub ScansAreRoutes : Type 0
ScansAreRoutes =
    (p : Program) (ins : List ℕ) (before after : Machine) (n : ℕ) → Formed p → length ins ≡ 8 → Fitting p before.memory →
    Scans p ins before n after → Fitting p after.memory × ScanTakes p n

-- a pass of an accepted program has a rule for each step, and holds no more cells than the certificate says
abbrev pub PassesAreRuled : Type 0
PassesAreRuled =
    (p : Program) (lines stack scan : ℕ) → Accepted p → Certified p lines stack scan →
    (u : UnitId) (m : Memory) → Real p u → Fitting p m → Ruled p stack u m

-- a pass of a module comes to its end, and that of one which is not sequential at the module's end
abbrev pub PassesEnd : Type 0
PassesEnd =
    (p : Program) (t : ℕ) (m : Memory) → Accepted p → t < length p.lengths → Fitting p m →
    (n : ℕ) × (whole : Bool) × (m' : Memory) × Passes p (Module t) m n whole m' × (n ≤ length p.lines) × (sequential (Module t) ≡ false → whole ≡ true)

-- a scan has its steps and its machine after it
abbrev pub ScansExist : Type 0
ScansExist =
    (p : Program) (ins : List ℕ) (before : Machine) → Accepted p → length ins ≡ 8 → Fitting p before.memory →
    (n : ℕ) × (after : Machine) × Scans p ins before n after

-- the certificate's depth is at most eight
abbrev pub StackAtMostEight : Type 0
StackAtMostEight = (p : Program) (lines stack scan : ℕ) → Accepted p → Certified p lines stack scan → stack ≤ 8

-- THE GUARANTEE: of an accepted program with its certificate, and every session by the rules over any cabinet of a lawful meaning
abbrev pub Guarantee : {X : Type 0} → Meaning X → Type 0
Guarantee M = Lawful M → (p : Program) (lines stack scan : ℕ) → Accepted p → Certified p lines stack scan → Guaranteed M p stack scan

-- over cabinets that serve, an accepted program can be started, and every call can follow until a halt: the sessions that the guarantee speaks of are there
abbrev pub SessionsGoOn : {X : Type 0} → Meaning X → Type 0
SessionsGoOn {X} M =
    Lawful M → Serving M → (p : Program) → Accepted p → (x₀ : X) →
    ((a : Answer) × (machine : Machine) × (x : X) × Session M p x₀ a [] machine x)
    × ((a : Answer) (done : List (Call × Answer)) (machine : Machine) (x : X) → Session M p x₀ a done machine x → Running done →
    (c : Call) → (r : Answer) × (after : Machine) × (y : X) × Session M p x₀ a ((c, r) ∷ done) after y)
