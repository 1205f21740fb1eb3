-- Texts of INPUT worked through: what is accepted, and what is refused and where. Assumes nothing.
use Rattle.std.specs.Prelude.{List, [], ◌∷◌, ◌++◌, length, replicate}
use Rattle.rules.specs.declared.line.Line.{Line}
use Rattle.rules.specs.declared.op.Mnemonic.TheVariants as name
use Rattle.rules.specs.Program.{Program}
use Rattle.rules.specs.Verdict.{TextRefused, Accepted, Certified}
use Rattle.theory.specs.Worked.{row}

-- a program whose lines are all in INPUT
abbrev pub in_input : List Line → Program
in_input xs = record { initial = replicate 17 0; activation = []; lengths = length xs ∷ replicate 6 0; lines = xs }

-- nine LDR, eight LA of mode 2, and WR
abbrev pub nine : Program
nine = in_input (replicate 9 (row name.Ldr 0 0) ++ (replicate 8 (row name.La 2 0) ++ (row name.Wr 0 64 ∷ [])))

-- nine are accepted, with the depth 8
abbrev pub NineAccepted : Type 0
NineAccepted = Accepted nine × Certified nine 18 8 18

-- ten LDR are refused: the tenth pushes a ninth cell
abbrev pub TenRefused : Type 0
TenRefused = TextRefused (in_input (replicate 10 (row name.Ldr 0 0))) 13 9

-- LDR, LDR and WR are refused: a cell is left at INPUT's end
abbrev pub LeftRefused : Type 0
LeftRefused = TextRefused (in_input (row name.Ldr 0 0 ∷ row name.Ldr 0 0 ∷ row name.Wr 0 64 ∷ [])) 13 3

-- LDR, JL1 to line 4, LDR, LDR and LA of mode 2 are refused: routes arrive at line 4 with 0 and with 1 cells
abbrev pub MeetingRefused : Type 0
MeetingRefused = TextRefused (in_input (row name.Ldr 0 0 ∷ row name.Jl1 0 4 ∷ row name.Ldr 0 0 ∷ row name.Ldr 0 0 ∷ row name.La 2 0 ∷ [])) 13 4
