-- The gate program, worked through: one mechanism that opens a gate, waits, and shuts it. Assumes nothing.
use Rattle.std.specs.Prelude.{◌≡◌, ℕ, List, [], ◌∷◌, replicate, slice_index}
use Rattle.rules.specs.declared.op.Mnemonic.TheVariants as name
use Rattle.rules.specs.Program.{Program}
use Rattle.rules.specs.Verdict.{Accepted, Certified}
use Rattle.rules.specs.declared.session.Phase.TheVariants.{Idle}
use Rattle.rules.specs.declared.session.Answer.TheVariants.{Done}
use Rattle.rules.specs.Session.{Machine, outputs, Scans, Starts}
use Rattle.theory.specs.Worked.{row}

-- MAIN: LDR 0; FL1 1,136; MECH_BEGIN 0; FL 1,64; EX; LDR 1; EX0; FL 0,64; MECH_END 0. INIT and CLEAR: MECH_INIT 0
abbrev pub gate : Program
gate = record {
  initial = replicate 18 0;
  activation = 136 ∷ [];
  lengths = 0 ∷ 0 ∷ 0 ∷ 9 ∷ 1 ∷ 1 ∷ 0 ∷ [];
  lines = row name.Ldr 0 0 ∷ row name.Fl1 1 136 ∷ row name.MechBegin 0 0 ∷ row name.Fl 1 64 ∷ row name.Ex 0 0 ∷ row name.Ldr 0 1 ∷ row name.Ex0 0 0 ∷ row name.Fl 0 64 ∷ row name.MechEnd 0 0 ∷ row name.MechInit 0 0 ∷ row name.MechInit 0 0 ∷ [];
}

-- the inputs with a byte at port 0 and 0 at the others
abbrev pub inputs_of : ℕ → List ℕ
inputs_of b = b ∷ 0 ∷ 0 ∷ 0 ∷ 0 ∷ 0 ∷ 0 ∷ 0 ∷ []

-- a scan with the input byte 0 given: so many steps, and what terminal 0 shows after it
abbrev pub GateScan : ℕ → Machine → ℕ → Machine → ℕ → Type 0
GateScan b before n after shown = Scans gate (inputs_of b) before n after × (slice_index (outputs after.memory) 0 ≡ shown)

-- with 1, 1 and 2 at input 0, three scans have 5, 5 and 7 steps, and terminal 0 shows 1, 1 and 0
abbrev pub GateWorks : Type 0
GateWorks = (m₀ m₁ m₂ m₃ : Machine) × Starts gate (Done Idle) m₀ × GateScan 1 m₀ 5 m₁ 1 × GateScan 1 m₁ 5 m₂ 1 × GateScan 2 m₂ 7 m₃ 0

-- it is accepted
abbrev pub GateAccepted : Type 0
GateAccepted = Accepted gate

-- its certificate's fields
abbrev pub GateCertified : Type 0
GateCertified = Certified gate 11 0 7
