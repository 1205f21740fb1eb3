-- What a measure makes of the routes of a unit, and what the table of a walk holds. Assumes nothing.
use Rattle.std.specs.Prelude.{◌≡◌, ℕ, ◌+◌, ◌-◌, ◌⊎◌, List, [], ◌∷◌, length, Some, None, Option, slice_index_or}
use Rattle.rules.specs.declared.line.Line.{Line}
use Rattle.rules.specs.declared.unit.UnitId.{UnitId}
use Rattle.rules.specs.Program.{Program, Own, line_at, first, end}
use Rattle.rules.specs.Route.{Arrives, Route}
use Rattle.walk.specs.Joins.{JoinOf}

-- line l is one of unit u's own, or its end
abbrev pub OwnOrEnd : Program → UnitId → ℕ → Type 0
OwnOrEnd p u l = Own p u l ⊎ (l ≡ end p u)

-- the value along a route's lines, the newest first: their effects, one after the other, from the start value
abbrev pub along : {V : Type 0} → V → (ℕ → Line → V → V) → Program → List ℕ → V
along start effect p [] = start
along start effect p (l ∷ path) = effect l (line_at p l) (along start effect p path)

-- v is the value along some route that arrives at line l
abbrev pub Brought : {V : Type 0} → V → (ℕ → Line → V → V) → Program → UnitId → ℕ → V → Type 0
Brought start effect p u l v = (path : List ℕ) × Arrives p u path l × (along start effect p path ≡ v)

-- v is the value along some whole route
abbrev pub Whole : {V : Type 0} → V → (ℕ → Line → V → V) → Program → UnitId → V → Type 0
Whole start effect p u v = (path : List ℕ) × Route p u path × (along start effect p path ≡ v)

-- the table has a place for each line from the unit's first to its end; each own line and the end have an entry, the join over all routes that arrive there, and no other place has one
pub record Walked {V : Type 0} (start : V) (effect : ℕ → Line → V → V) (join : V → V → V) (p : Program) (u : UnitId) (table : List (Option V)) : Type 0 where
  pub long : first p u + length table ≡ end p u + 1
  pub entry : (l : ℕ) → OwnOrEnd p u l → (v : V) × (slice_index_or table (l - first p u) None ≡ Some v) × JoinOf join (Brought start effect p u l) v
  pub nowhere_else : (k : ℕ) (v : V) → slice_index_or table k None ≡ Some v → OwnOrEnd p u (first p u + k)
