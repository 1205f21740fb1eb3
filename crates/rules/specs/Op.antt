-- What a line says: its code and mode name an operation, and its operand says where. Assumes nothing.
use Rattle.std.specs.Prelude.{◌≡◌, ℕ, Bool, true, false, cond, ◌||◌, Some, None, Option, ◌==◌, ◌≢◌, MatchOption, MatchResult, Result}
use Rattle.rules.specs.declared.line.Line.{Line}
use Rattle.rules.specs.declared.op.Mnemonic.{Mnemonic}
use Rattle.rules.specs.declared.op.Mnemonic.TheVariants as name
use Rattle.rules.specs.declared.op.UnknownCode.{UnknownCode}
use Rattle.rules.specs.declared.op.Logic.{Logic}
use Rattle.rules.specs.declared.op.Logic.TheVariants.{And, Or, Xor}
use Rattle.rules.specs.declared.op.Width.{Width}
use Rattle.rules.specs.declared.op.Width.TheVariants.{One, Two, Four}
use Rattle.rules.specs.declared.op.Op.{Op}
use Rattle.rules.specs.declared.op.Op.TheVariants.{Ldr, Combine, CombineCell, Ca, Wr, Fl, Fl1, Jl, Ex, ExIf, Lod, Sto, Ad, Ge, Abs, MechBegin, MechEnd, MechInit}

-- the code of each name
abbrev pub code_of : Mnemonic → ℕ
code_of name.Ldr = 1
code_of name.La = 2
code_of name.Lo = 3
code_of name.Lx = 4
code_of name.Ca = 5
code_of name.Wr = 6
code_of name.Fl = 7
code_of name.Fl1 = 8
code_of name.Jl0 = 9
code_of name.Jl1 = 10
code_of name.Ex = 11
code_of name.Ex0 = 12
code_of name.Ex1 = 13
code_of name.Lod = 16
code_of name.Sto = 17
code_of name.Ad = 19
code_of name.Abs = 20
code_of name.Ge = 21
code_of name.MechBegin = 22
code_of name.MechEnd = 23
code_of name.MechInit = 24

-- the name that a code stands for, or the word that it stands for none
abbrev pub IsNamedBy : ℕ → Result Mnemonic UnknownCode → Type 0
IsNamedBy code r = MatchResult r (λ n. code ≡ code_of n) (λ e. (n : Mnemonic) → (code ≢ code_of n))

-- whether a line has the code of a name
abbrev pub is : Mnemonic → Line → Bool
is n x = x.code == code_of n

-- the name whose code a line has, or none if it has that of no name
abbrev pub Names : Line → Option Mnemonic → Type 0
Names x o = MatchOption o ((n : Mnemonic) → is n x ≡ false) (λ n. is n x ≡ true)

-- whether a line is MECH_BEGIN
abbrev pub is_begin : Line → Bool
is_begin x = is name.MechBegin x

-- whether a line is MECH_END
abbrev pub is_end : Line → Bool
is_end x = is name.MechEnd x

-- whether a line is MECH_INIT
abbrev pub is_init : Line → Bool
is_init x = is name.MechInit x

-- whether a line is a jump: JL0 or JL1
abbrev pub is_jump : Line → Bool
is_jump x = is name.Jl0 x || is name.Jl1 x

-- whether a line is EX-type: EX, EX0 or EX1
abbrev pub is_exit : Line → Bool
is_exit x = is name.Ex x || (is name.Ex0 x || is name.Ex1 x)

-- whether a line is EX, which never lets the pass go on
abbrev pub is_ex : Line → Bool
is_ex x = is name.Ex x

-- how many bytes a width has
abbrev pub bytes_of : Width → ℕ
bytes_of One = 1
bytes_of Two = 2
bytes_of Four = 4

-- the name of each way to join
abbrev pub logic_name : Logic → Mnemonic
logic_name And = name.La
logic_name Or = name.Lo
logic_name Xor = name.Lx

-- the name of a jump, by the RLO at which it jumps
abbrev pub jump_name : Bool → Mnemonic
jump_name false = name.Jl0
jump_name true = name.Jl1

-- the name of an exit, by the RLO at which it ends the pass
abbrev pub exit_name : Bool → Mnemonic
exit_name false = name.Ex0
exit_name true = name.Ex1

-- the name of each operation
abbrev pub name_of : Op → Mnemonic
name_of (Ldr s a) = name.Ldr
name_of (Combine f s a) = logic_name f
name_of (CombineCell f) = logic_name f
name_of Ca = name.Ca
name_of (Wr a) = name.Wr
name_of (Fl v a) = name.Fl
name_of (Fl1 v a) = name.Fl1
name_of (Jl w t) = jump_name w
name_of Ex = name.Ex
name_of (ExIf w) = exit_name w
name_of (Lod w a) = name.Lod
name_of (Sto w a) = name.Sto
name_of (Ad w a) = name.Ad
name_of (Abs w) = name.Abs
name_of (Ge w a) = name.Ge
name_of (MechBegin k) = name.MechBegin
name_of (MechEnd k) = name.MechEnd
name_of (MechInit k) = name.MechInit

-- mode 0 or 1, the second with negation, or with the value 1
abbrev pub by_negation : ℕ → (Bool → Op) → Option Op
by_negation m f = cond (m == 0) (Some (f false)) (cond (m == 1) (Some (f true)) None)

-- mode 0, 1 or 2, the last with a cell in place of the bit
abbrev pub by_cell : ℕ → (Bool → Op) → Op → Option Op
by_cell m f g = cond (m == 2) (Some g) (by_negation m f)

-- mode 0 alone
abbrev pub plain : ℕ → Op → Option Op
plain m g = cond (m == 0) (Some g) None

-- mode 1, 2 or 4, the width
abbrev pub by_width : ℕ → (Width → Op) → Option Op
by_width m f = cond (m == 1) (Some (f One)) (cond (m == 2) (Some (f Two)) (cond (m == 4) (Some (f Four)) None))

-- the operation that a line's code and mode name, if they name one
abbrev pub decode : Line → Option Op
decode x =
    let m = x.mode in
    let o = x.operand in
    cond (is name.Ldr x) (by_negation m (λ s. Ldr s o))
    (cond (is name.La x) (by_cell m (λ s. Combine And s o) (CombineCell And))
    (cond (is name.Lo x) (by_cell m (λ s. Combine Or s o) (CombineCell Or))
    (cond (is name.Lx x) (by_cell m (λ s. Combine Xor s o) (CombineCell Xor))
    (cond (is name.Ca x) (plain m Ca)
    (cond (is name.Wr x) (plain m (Wr o))
    (cond (is name.Fl x) (by_negation m (λ v. Fl v o))
    (cond (is name.Fl1 x) (by_negation m (λ v. Fl1 v o))
    (cond (is name.Jl0 x) (plain m (Jl false o))
    (cond (is name.Jl1 x) (plain m (Jl true o))
    (cond (is name.Ex x) (plain m Ex)
    (cond (is name.Ex0 x) (plain m (ExIf false))
    (cond (is name.Ex1 x) (plain m (ExIf true))
    (cond (is name.Lod x) (by_width m (λ w. Lod w o))
    (cond (is name.Sto x) (by_width m (λ w. Sto w o))
    (cond (is name.Ad x) (by_width m (λ w. Ad w o))
    (cond (is name.Abs x) (by_width m Abs)
    (cond (is name.Ge x) (by_width m (λ w. Ge w o))
    (cond (is name.MechBegin x) (plain m (MechBegin o))
    (cond (is name.MechEnd x) (plain m (MechEnd o))
    (cond (is name.MechInit x) (plain m (MechInit o)) None))))))))))))))))))))
