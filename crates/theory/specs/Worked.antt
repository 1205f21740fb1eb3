-- Worked cases: what codes and modes are read as, what each operation does, which lines clear the text flag, where the data stand, and the numbers of the refusals. Assumes nothing.
use Rattle.std.specs.Prelude.{◌≡◌, ℕ, Bool, true, false, List, [], ◌∷◌, map, replicate, Some, None}
use Rattle.rules.specs.declared.line.Line.{Line}
use Rattle.rules.specs.declared.op.Mnemonic.{Mnemonic}
use Rattle.rules.specs.declared.op.Op.{Op}
use Rattle.rules.specs.declared.op.Mnemonic.TheVariants as name
use Rattle.rules.specs.declared.op.Logic.TheVariants.{And, Or, Xor}
use Rattle.rules.specs.declared.op.Op.TheVariants.{Ldr, Combine, CombineCell, Ca, Wr, Fl, Fl1, Jl, Ex, ExIf, Lod, Sto, Ad, Ge, Abs, MechBegin, MechEnd, MechInit}
use Rattle.rules.specs.declared.op.Width.TheVariants.{One, Two, Four}
use Rattle.rules.specs.Op.{code_of, decode}
use Rattle.rules.specs.Refusal.{rule_number}
use Rattle.rules.specs.declared.refusal.Rule.TheVariants.{TooShort, CountOutOfRange, ActivationOutside, BytesLeftOver, WrongTotal, UnknownLine, BadOperand, BadMechanism, BadJump, BadExit, BadInit, BadDepth, Uninitialised, BlockStartOutsidePhase0, ReportOutsidePhase2, PortAboveSeven}
use Rattle.rules.specs.Program.{null_program, flag_after}
use Rattle.rules.specs.Run.{Memory}
use Rattle.rules.specs.Session.{outputs, with_inputs, zav_fce, block_points_back}
use Rattle.rules.specs.Effect.{Registers, Turn, follows, goes, stops, waits, resumes, enters, skips, resets, keeping, effect}

-- a line of a name, a mode and an operand
abbrev pub row : Mnemonic → ℕ → ℕ → Line
row n m o = record { code = code_of n; mode = m; operand = o }

-- RLO, DR and cells
abbrev pub regs : Bool → ℕ → List Bool → Registers
regs b n c = record { rlo = b; dr = n; cells = c }

-- an operation where the text flag is clear, with the activation bit of mechanism 0 at address 8, has this effect
abbrev pub Does : Op → Registers → List ℕ → Registers → List ℕ → Turn → Type 0
Does o r m r' m' t = effect false (8 ∷ []) o r m ≡ Some (keeping r' m' t)

-- the same where the text flag is set
abbrev pub DoesFlagged : Op → Registers → List ℕ → Registers → List ℕ → Turn → Type 0
DoesFlagged o r m r' m' t = effect true (8 ∷ []) o r m ≡ Some (keeping r' m' t)

-- an operation for which there is no rule
abbrev pub Ruleless : Bool → Op → Registers → List ℕ → Type 0
Ruleless f o r m = effect f (8 ∷ []) o r m ≡ None

-- eight cells
abbrev pub full : List Bool
full = true ∷ true ∷ true ∷ true ∷ true ∷ true ∷ true ∷ true ∷ []

-- what the bit operations do: the bytes are 5 and 2, so that the bits 0, 2 and 9 are 1
abbrev pub BitsWork : Type 0
BitsWork =
    Does (Ldr false 2) (regs false 7 (true ∷ [])) (5 ∷ 2 ∷ []) (regs true 7 (true ∷ [])) (5 ∷ 2 ∷ []) follows
    × Does (Ldr true 9) (regs true 7 []) (5 ∷ 2 ∷ []) (regs false 7 []) (5 ∷ 2 ∷ []) follows
    × DoesFlagged (Ldr false 1) (regs true 7 (false ∷ [])) (5 ∷ 2 ∷ []) (regs false 7 (true ∷ false ∷ [])) (5 ∷ 2 ∷ []) follows
    × Ruleless true (Ldr false 0) (regs true 0 full) (5 ∷ 2 ∷ [])
    × Ruleless false (Ldr false 16) (regs true 0 []) (5 ∷ 2 ∷ [])
    × Does (Combine And false 1) (regs true 7 []) (5 ∷ 2 ∷ []) (regs false 7 []) (5 ∷ 2 ∷ []) follows
    × Does (Combine And true 1) (regs true 7 []) (5 ∷ 2 ∷ []) (regs true 7 []) (5 ∷ 2 ∷ []) follows
    × Does (Combine Or false 0) (regs false 7 []) (5 ∷ 2 ∷ []) (regs true 7 []) (5 ∷ 2 ∷ []) follows
    × Does (Combine Or false 1) (regs false 7 []) (5 ∷ 2 ∷ []) (regs false 7 []) (5 ∷ 2 ∷ []) follows
    × Does (Combine Xor false 0) (regs true 7 []) (5 ∷ 2 ∷ []) (regs false 7 []) (5 ∷ 2 ∷ []) follows
    × Does (Combine Xor false 0) (regs false 7 []) (5 ∷ 2 ∷ []) (regs true 7 []) (5 ∷ 2 ∷ []) follows
    × Does (CombineCell And) (regs true 7 (false ∷ true ∷ [])) (5 ∷ 2 ∷ []) (regs false 7 (true ∷ [])) (5 ∷ 2 ∷ []) follows
    × Does (CombineCell Or) (regs false 7 (true ∷ false ∷ [])) (5 ∷ 2 ∷ []) (regs true 7 (false ∷ [])) (5 ∷ 2 ∷ []) follows
    × Does (CombineCell Xor) (regs true 7 (true ∷ [])) (5 ∷ 2 ∷ []) (regs false 7 []) (5 ∷ 2 ∷ []) follows
    × Ruleless false (CombineCell And) (regs true 0 []) (5 ∷ 2 ∷ [])
    × Does Ca (regs true 7 (true ∷ [])) (5 ∷ 2 ∷ []) (regs false 7 (true ∷ [])) (5 ∷ 2 ∷ []) follows
    × Does (Wr 1) (regs true 7 []) (5 ∷ 2 ∷ []) (regs true 7 []) (7 ∷ 2 ∷ []) follows
    × Does (Wr 9) (regs false 7 []) (5 ∷ 2 ∷ []) (regs false 7 []) (5 ∷ 0 ∷ []) follows
    × Does (Fl true 15) (regs false 7 []) (5 ∷ 2 ∷ []) (regs false 7 []) (5 ∷ 130 ∷ []) follows
    × Does (Fl false 2) (regs true 7 []) (5 ∷ 2 ∷ []) (regs true 7 []) (1 ∷ 2 ∷ []) follows
    × Does (Fl1 true 1) (regs true 7 []) (5 ∷ 2 ∷ []) (regs true 7 []) (7 ∷ 2 ∷ []) follows
    × Does (Fl1 false 0) (regs true 7 []) (5 ∷ 2 ∷ []) (regs true 7 []) (4 ∷ 2 ∷ []) follows
    × Does (Fl1 true 1) (regs false 7 []) (5 ∷ 2 ∷ []) (regs false 7 []) (5 ∷ 2 ∷ []) follows

-- where the lines that lead elsewhere lead
abbrev pub TurnsWork : Type 0
TurnsWork =
    Does (Jl false 40) (regs false 7 []) (5 ∷ 2 ∷ []) (regs false 7 []) (5 ∷ 2 ∷ []) (goes 40)
    × Does (Jl false 40) (regs true 7 []) (5 ∷ 2 ∷ []) (regs true 7 []) (5 ∷ 2 ∷ []) follows
    × Does (Jl true 40) (regs true 7 []) (5 ∷ 2 ∷ []) (regs true 7 []) (5 ∷ 2 ∷ []) (goes 40)
    × Does (Jl true 40) (regs false 7 []) (5 ∷ 2 ∷ []) (regs false 7 []) (5 ∷ 2 ∷ []) follows
    × Does Ex (regs true 7 []) (5 ∷ 2 ∷ []) (regs true 7 []) (5 ∷ 2 ∷ []) stops
    × Does (ExIf false) (regs false 7 []) (5 ∷ 2 ∷ []) (regs false 7 []) (5 ∷ 2 ∷ []) waits
    × Does (ExIf false) (regs true 7 []) (5 ∷ 2 ∷ []) (regs true 7 []) (5 ∷ 2 ∷ []) resumes
    × Does (ExIf true) (regs true 7 []) (5 ∷ 2 ∷ []) (regs true 7 []) (5 ∷ 2 ∷ []) waits
    × Does (ExIf true) (regs false 7 []) (5 ∷ 2 ∷ []) (regs false 7 []) (5 ∷ 2 ∷ []) resumes
    × Does (MechBegin 0) (regs true 7 []) (5 ∷ 3 ∷ []) (regs true 7 []) (5 ∷ 3 ∷ []) (enters 0)
    × Does (MechBegin 0) (regs true 7 []) (5 ∷ 2 ∷ []) (regs true 7 []) (5 ∷ 2 ∷ []) (skips 0)
    × Does (MechEnd 0) (regs true 7 []) (5 ∷ 3 ∷ []) (regs true 7 []) (5 ∷ 2 ∷ []) follows
    × Does (MechInit 0) (regs true 7 []) (5 ∷ 3 ∷ []) (regs true 7 []) (5 ∷ 2 ∷ []) (resets 0)

-- what the number operations do, at the widths 1, 2 and 4
abbrev pub NumbersWork : Type 0
NumbersWork =
    Does (Lod One 1) (regs true 70000 []) (1 ∷ 2 ∷ 3 ∷ 4 ∷ []) (regs true 2 []) (1 ∷ 2 ∷ 3 ∷ 4 ∷ []) follows
    × Does (Lod Two 1) (regs true 70000 []) (1 ∷ 2 ∷ 3 ∷ 4 ∷ []) (regs true 770 []) (1 ∷ 2 ∷ 3 ∷ 4 ∷ []) follows
    × Does (Lod Four 0) (regs true 70000 []) (1 ∷ 2 ∷ 3 ∷ 4 ∷ []) (regs true 67305985 []) (1 ∷ 2 ∷ 3 ∷ 4 ∷ []) follows
    × Ruleless false (Lod Four 1) (regs true 0 []) (1 ∷ 2 ∷ 3 ∷ 4 ∷ [])
    × Does (Sto One 2) (regs true 70000 []) (1 ∷ 2 ∷ 3 ∷ 4 ∷ []) (regs true 70000 []) (1 ∷ 2 ∷ 112 ∷ 4 ∷ []) follows
    × Does (Sto Two 1) (regs true 70000 []) (1 ∷ 2 ∷ 3 ∷ 4 ∷ []) (regs true 70000 []) (1 ∷ 112 ∷ 17 ∷ 4 ∷ []) follows
    × Does (Sto Four 0) (regs true 70000 []) (1 ∷ 2 ∷ 3 ∷ 4 ∷ []) (regs true 70000 []) (112 ∷ 17 ∷ 1 ∷ 0 ∷ []) follows
    -- 250 AD 10 gives 4, and the upper bytes are cleared
    × Does (Ad One 0) (regs false 250 []) (10 ∷ []) (regs false 4 []) (10 ∷ []) follows
    × Does (Ad One 0) (regs false 513 []) (10 ∷ []) (regs false 11 []) (10 ∷ []) follows
    × Does (Ad Two 0) (regs false 65535 []) (2 ∷ 1 ∷ []) (regs false 257 []) (2 ∷ 1 ∷ []) follows
    × Does (Ad Four 0) (regs false 4294967295 []) (2 ∷ 0 ∷ 0 ∷ 0 ∷ []) (regs false 1 []) (2 ∷ 0 ∷ 0 ∷ 0 ∷ []) follows
    -- ABS of 128 gives 128 at width 1
    × Does (Abs One) (regs false 128 []) [] (regs false 128 []) [] follows
    × Does (Abs One) (regs false 511 []) [] (regs false 1 []) [] follows
    × Does (Abs Two) (regs false 128 []) [] (regs false 128 []) [] follows
    × Does (Abs Four) (regs false 4294967295 []) [] (regs false 1 []) [] follows
    -- 255 GE 0 gives RLO 0 at width 1
    × Does (Ge One 0) (regs true 255 []) (0 ∷ []) (regs false 255 []) (0 ∷ []) follows
    × Does (Ge One 0) (regs false 0 []) (255 ∷ []) (regs true 0 []) (255 ∷ []) follows
    × Does (Ge One 0) (regs false 5 []) (5 ∷ []) (regs true 5 []) (5 ∷ []) follows
    × Does (Ge Two 0) (regs false 255 []) (0 ∷ 0 ∷ []) (regs true 255 []) (0 ∷ 0 ∷ []) follows

-- the text flag after one line of a name
abbrev pub flag_from : Bool → Mnemonic → Bool
flag_from b n = flag_after b (row n 0 0 ∷ [])

-- LDR sets the text flag, these lines clear it, and the others leave it
abbrev pub FlagWorks : Type 0
FlagWorks =
    (flag_from false name.Ldr ≡ true)
    × (flag_from true name.MechBegin ≡ false) × (flag_from true name.MechEnd ≡ false) × (flag_from true name.Wr ≡ false)
    × (flag_from true name.Jl0 ≡ false) × (flag_from true name.Jl1 ≡ false) × (flag_from true name.Fl1 ≡ false)
    × (flag_from true name.Ex ≡ false) × (flag_from true name.Ex0 ≡ false) × (flag_from true name.Ex1 ≡ false)
    × (flag_from true name.La ≡ true) × (flag_from true name.Lo ≡ true) × (flag_from true name.Lx ≡ true) × (flag_from true name.Ca ≡ true) × (flag_from true name.Fl ≡ true)
    × (flag_from true name.Lod ≡ true) × (flag_from true name.Sto ≡ true) × (flag_from true name.Ad ≡ true) × (flag_from true name.Abs ≡ true) × (flag_from true name.Ge ≡ true) × (flag_from true name.MechInit ≡ true)
    × (flag_from false name.La ≡ false) × (flag_from false name.Ge ≡ false) × (flag_from false name.MechInit ≡ false)

-- a memory of 17 bytes: the inputs 0 to 7, the outputs 8 to 15, and a byte with ZAV_FCE
abbrev pub counting : ℕ → Memory
counting z = record { bytes = 0 ∷ 1 ∷ 2 ∷ 3 ∷ 4 ∷ 5 ∷ 6 ∷ 7 ∷ 8 ∷ 9 ∷ 10 ∷ 11 ∷ 12 ∷ 13 ∷ 14 ∷ 15 ∷ z ∷ []; init_point = 3; done_point = 4; points = 5 ∷ [] }

-- where the inputs, the outputs and ZAV_FCE stand in the data
abbrev pub PlacesWork : Type 0
PlacesWork =
    (outputs (counting 0) ≡ 8 ∷ 9 ∷ 10 ∷ 11 ∷ 12 ∷ 13 ∷ 14 ∷ 15 ∷ [])
    × (zav_fce (counting 1) ≡ true)
    × (zav_fce (counting 254) ≡ false)
    × ((with_inputs (counting 0) (replicate 8 9)).bytes ≡ 9 ∷ 9 ∷ 9 ∷ 9 ∷ 9 ∷ 9 ∷ 9 ∷ 9 ∷ 8 ∷ 9 ∷ 10 ∷ 11 ∷ 12 ∷ 13 ∷ 14 ∷ 15 ∷ 0 ∷ [])
    × ((with_inputs (counting 0) (replicate 8 9)).points ≡ 5 ∷ [])
    × ((block_points_back null_program (counting 0)).init_point ≡ 0)
    × ((block_points_back null_program (counting 0)).points ≡ 5 ∷ [])

-- the numbers of the refusals
abbrev pub RefusalsWork : Type 0
RefusalsWork =
    map rule_number (TooShort ∷ CountOutOfRange ∷ ActivationOutside ∷ BytesLeftOver ∷ WrongTotal ∷ UnknownLine ∷ BadOperand ∷ BadMechanism ∷ BadJump ∷ BadExit ∷ BadInit ∷ BadDepth ∷ Uninitialised ∷ BlockStartOutsidePhase0 ∷ ReportOutsidePhase2 ∷ PortAboveSeven ∷ [])
    ≡ 1 ∷ 2 ∷ 3 ∷ 4 ∷ 5 ∷ 6 ∷ 7 ∷ 8 ∷ 9 ∷ 10 ∷ 11 ∷ 13 ∷ 14 ∷ 20 ∷ 21 ∷ 26 ∷ []

-- what codes and modes are read as
abbrev pub CodesWork : Type 0
CodesWork =
    (decode (record { code = 1; mode = 1; operand = 9 }) ≡ Some (Ldr true 9))
    × (decode (record { code = 2; mode = 0; operand = 9 }) ≡ Some (Combine And false 9))
    × (decode (record { code = 3; mode = 1; operand = 9 }) ≡ Some (Combine Or true 9))
    × (decode (record { code = 4; mode = 2; operand = 0 }) ≡ Some (CombineCell Xor))
    × (decode (record { code = 5; mode = 0; operand = 0 }) ≡ Some Ca)
    × (decode (record { code = 6; mode = 0; operand = 9 }) ≡ Some (Wr 9))
    × (decode (record { code = 7; mode = 1; operand = 9 }) ≡ Some (Fl true 9))
    × (decode (record { code = 8; mode = 0; operand = 9 }) ≡ Some (Fl1 false 9))
    × (decode (record { code = 9; mode = 0; operand = 9 }) ≡ Some (Jl false 9))
    × (decode (record { code = 10; mode = 0; operand = 9 }) ≡ Some (Jl true 9))
    × (decode (record { code = 11; mode = 0; operand = 0 }) ≡ Some Ex)
    × (decode (record { code = 12; mode = 0; operand = 0 }) ≡ Some (ExIf false))
    × (decode (record { code = 13; mode = 0; operand = 0 }) ≡ Some (ExIf true))
    × (decode (record { code = 16; mode = 1; operand = 9 }) ≡ Some (Lod One 9))
    × (decode (record { code = 17; mode = 2; operand = 9 }) ≡ Some (Sto Two 9))
    × (decode (record { code = 19; mode = 4; operand = 9 }) ≡ Some (Ad Four 9))
    × (decode (record { code = 20; mode = 1; operand = 0 }) ≡ Some (Abs One))
    × (decode (record { code = 21; mode = 2; operand = 9 }) ≡ Some (Ge Two 9))
    × (decode (record { code = 22; mode = 0; operand = 9 }) ≡ Some (MechBegin 9))
    × (decode (record { code = 23; mode = 0; operand = 9 }) ≡ Some (MechEnd 9))
    × (decode (record { code = 24; mode = 0; operand = 9 }) ≡ Some (MechInit 9))
    × (decode (record { code = 1; mode = 2; operand = 9 }) ≡ None)
    × (decode (record { code = 6; mode = 1; operand = 9 }) ≡ None)
    × (decode (record { code = 16; mode = 3; operand = 9 }) ≡ None)
    × (decode (record { code = 18; mode = 1; operand = 9 }) ≡ None)
    × (decode (record { code = 0; mode = 0; operand = 0 }) ≡ None)
