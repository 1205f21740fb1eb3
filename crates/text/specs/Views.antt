-- What is asked of a formed program by number, and where there is an answer. Assumes nothing.
use Rattle.std.specs.Prelude.{◌≡◌, ℕ, cond, length, Some, None, Option, nat_lt}
use Rattle.rules.specs.declared.unit.UnitId.{UnitId}
use Rattle.rules.specs.Program.{Program, Real, first, end}
use Rattle.text.specs.declared.span.Span.{Span}

-- x, where the text has a line of number l
abbrev pub at_line : {A : Type 0} → Program → ℕ → A → Option A
at_line p l x = cond (nat_lt l (length p.lines)) (Some x) None

-- the first line and the end of a unit, where the program has it
abbrev pub Spans : Program → UnitId → Option Span → Type 0
Spans p u None = Real p u → ⊥
Spans p u (Some s) = Real p u × (s.first ≡ first p u) × (s.end ≡ end p u)
