-- What a table holds while a walk is under way, and what is joined while the whole routes are gone through. Assumes nothing.
use Rattle.std.specs.Prelude.{◌≡◌, ℕ, ◌+◌, ◌-◌, ◌<◌, ◌≤◌, true, List, [], ◌∷◌, length, Some, None, Option, slice_index_or}
use Rattle.rules.specs.declared.line.Line.{Line}
use Rattle.rules.specs.declared.unit.UnitId.{UnitId}
use Rattle.rules.specs.Op.{is_exit}
use Rattle.rules.specs.Program.{Program, Own, line_at, first, end}
use Rattle.rules.specs.Route.{Arrives}
use Rattle.walk.specs.Joins.{JoinOf}
use Rattle.walk.specs.Walked.{along}

-- one value more at a place of a table
abbrev pub merged : {V : Type 0} → (V → V → V) → Option V → V → Option V
merged join None x = Some x
merged join (Some a) x = Some (join a x)

-- an entry for the set S: nothing where S is empty, and else the join over it
abbrev pub Covers : {V : Type 0} → (V → V → V) → (V → Type 0) → Option V → Type 0
Covers {V} join S None = (x : V) → S x → ⊥
Covers join S (Some v) = JoinOf join S v

-- a table with an entry for the set of each line from one number to another
pub record Holds {V : Type 0} (join : V → V → V) (from to : ℕ) (S : ℕ → V → Type 0) (table : List (Option V)) : Type 0 where
  pub long : from + length table ≡ to + 1
  pub at : (l : ℕ) → from ≤ l → l ≤ to → Covers join (S l) (slice_index_or table (l - from) None)

-- the last line of a route to l, or the line after which it began, is before i
abbrev pub Recent : ℕ → ℕ → List ℕ → Type 0
Recent i l [] = l ≤ i
Recent i l (a ∷ path) = a < i

-- v is the value along a route to l that the lines before i have brought there
abbrev pub Stage : {V : Type 0} → V → (ℕ → Line → V → V) → Program → UnitId → ℕ → ℕ → V → Type 0
Stage start effect p u i l v = (path : List ℕ) × Arrives p u path l × Recent i l path × (along start effect p path ≡ v)

-- the lines before i are done
abbrev pub Staged : {V : Type 0} → V → (ℕ → Line → V → V) → (V → V → V) → Program → UnitId → ℕ → List (Option V) → Type 0
Staged start effect join p u i table = Holds join (first p u) (end p u) (Stage start effect p u i) table

-- v is the value along a route that has come to the end, or has stopped with an EX-type line before i
pub data Stopped {V : Type 0} (start : V) (effect : ℕ → Line → V → V) (p : Program) (u : UnitId) (i : ℕ) (v : V) : Type 0 where
  ended : {path : List ℕ} → Arrives p u path (end p u) → along start effect p path ≡ v → Stopped start effect p u i v
  stopped_before : {a : ℕ} {path : List ℕ} → Arrives p u path a → Own p u a → a < i → is_exit (line_at p a) ≡ true → effect a (line_at p a) (along start effect p path) ≡ v → Stopped start effect p u i v
