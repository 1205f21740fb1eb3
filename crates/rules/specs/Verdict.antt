-- When a program breaks a rule of the text, which refusal is given, when it is formed and accepted, and what its certificate says. Assumes nothing.
use Rattle.std.specs.Prelude.{◌≡◌, ℕ, ◌<◌, ◌≤◌, true, ◌⊎◌, List, length, ℤ, pos, ◌≤ℤ◌, ◌≢◌}
use Rattle.rules.specs.Refusal.{rule_number}
use Rattle.rules.specs.declared.refusal.Rule.TheVariants.{UnknownLine, BadOperand, BadMechanism, BadJump, BadExit, BadInit, BadDepth, Uninitialised}
use Rattle.rules.specs.Op.{is_begin, is_end, is_exit}
use Rattle.rules.specs.Program.{Program, Own, Real, line_at, end, pushes, pops, init_module, clear_module}
use Rattle.rules.specs.declared.unit.UnitId.{UnitId}
use Rattle.rules.specs.declared.unit.UnitId.TheVariants.{Module}
use Rattle.rules.specs.Form.{Shaped, Unknown, IsBadOperand, IsBadMechanism, IsBadJump, IsBadExit, IsBadInit}
use Rattle.rules.specs.Route.{Arrives, depth, Initialises, ScanTakes, Greatest}

-- d cells are stacked where a route arrives at line l, and that is too few, too many, or not none where none is due
abbrev pub OffBalance : Program → UnitId → ℕ → ℤ → Type 0
OffBalance p u l d =
    (Own p u l × (pops p l ≡ true) × (d ≡ pos 0))
    ⊎ ((Own p u l × (pushes p l ≡ true) × (d ≡ pos 8))
    ⊎ ((Own p u l × ((is_exit (line_at p l) ≡ true) ⊎ ((is_begin (line_at p l) ≡ true) ⊎ (is_end (line_at p l) ≡ true))) × (d ≢ pos 0))
    ⊎ ((l ≡ end p u) × (d ≢ pos 0))))

-- line l of a unit, or its end, where two routes arrive with different depths, or one with a depth that does not serve
pub data IsBadDepth (p : Program) (l : ℕ) : Type 0 where
  two_depths : {u : UnitId} {a b : List ℕ} → Real p u → Arrives p u a l → Arrives p u b l → (depth p a ≢ depth p b) → IsBadDepth p l
  off : {u : UnitId} {a : List ℕ} → Real p u → Arrives p u a l → OffBalance p u l (depth p a) → IsBadDepth p l

-- a route of module m that leaves a mechanism uninitialised
pub data MissesInit (p : Program) (m : ℕ) : Type 0 where
  misses : {a : List ℕ} {k : ℕ} → Arrives p (Module m) a (end p (Module m)) → k < length p.activation → (Initialises p k a → ⊥) → MissesInit p m

-- the rules of the text by their numbers, and the places where they are broken
pub data Breaks (p : Program) (rule place : ℕ) : Type 0 where
  by_unknown_line : rule ≡ rule_number UnknownLine → Unknown p place → Breaks p rule place
  by_bad_operand : rule ≡ rule_number BadOperand → IsBadOperand p place → Breaks p rule place
  by_bad_mechanism : rule ≡ rule_number BadMechanism → IsBadMechanism p place → Breaks p rule place
  by_bad_jump : rule ≡ rule_number BadJump → IsBadJump p place → Breaks p rule place
  by_bad_exit : rule ≡ rule_number BadExit → IsBadExit p place → Breaks p rule place
  by_bad_init : rule ≡ rule_number BadInit → IsBadInit p place → Breaks p rule place
  by_bad_depth : rule ≡ rule_number BadDepth → IsBadDepth p place → Breaks p rule place
  by_uninitialised : rule ≡ rule_number Uninitialised → (place ≡ init_module) ⊎ (place ≡ clear_module) → MissesInit p place → Breaks p rule place

-- the refusal that is given: the lowest rule that is broken, at the first place where it is
pub record TextRefused (p : Program) (rule place : ℕ) : Type 0 where
  pub broken : Breaks p rule place
  pub lowest : (r l : ℕ) → r < rule → Breaks p r l → ⊥
  pub foremost : (l : ℕ) → l < place → Breaks p rule l → ⊥

-- a formed program has its shape, and breaks no rule of the text up to that of MECH_INIT
pub record Formed (p : Program) : Type 0 where
  pub shaped : Shaped p
  pub unbroken : (rule place : ℕ) → rule ≤ rule_number BadInit → Breaks p rule place → ⊥

-- an accepted program has its shape, and breaks no rule of the text
pub record Accepted (p : Program) : Type 0 where
  pub shaped : Shaped p
  pub unbroken : (rule place : ℕ) → Breaks p rule place → ⊥

-- the depth of some route of a unit, at a line where it arrives
abbrev pub DepthOf : Program → ℤ → Type 0
DepthOf p d = (u : UnitId) × (l : ℕ) × (a : List ℕ) × Real p u × Arrives p u a l × (d ≡ depth p a)

-- the certificate: the number of lines, the greatest depth in any unit, and the greatest number of steps of a scan's routes
pub record Certified (p : Program) (lines stack scan : ℕ) : Type 0 where
  pub lines_are : lines ≡ length p.lines
  pub stack_bounds : (d : ℤ) → DepthOf p d → d ≤ℤ pos stack
  pub stack_attained : DepthOf p (pos stack)
  pub scan_is : Greatest (ScanTakes p) scan
