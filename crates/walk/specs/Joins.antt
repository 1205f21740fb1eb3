-- What a measure promises, and what the join over a set of values is. Assumes nothing.
use Rattle.std.specs.Prelude.{◌≡◌, ℕ}
use Rattle.rules.specs.declared.line.Line.{Line}

-- order and grouping of joins do not count, a value joined to itself is itself, and a line's effect on a join is the join of its effects
pub record Laws {V : Type 0} (join : V → V → V) (effect : ℕ → Line → V → V) : Type 0 where
  pub comm : (a b : V) → join a b ≡ join b a
  pub assoc : (a b c : V) → join (join a b) c ≡ join a (join b c)
  pub idem : (a : V) → join a a ≡ a
  pub spread : (l : ℕ) (x : Line) (a b : V) → effect l x (join a b) ≡ join (effect l x a) (effect l x b)

-- v is made from members of S by joins, finitely many
pub data Built {V : Type 0} (join : V → V → V) (S : V → Type 0) : V → Type 0 where
  one : {x : V} → S x → Built join S x
  both : {x y : V} → Built join S x → Built join S y → Built join S (join x y)

-- v is the join over S: it is made from members of S, and takes in each of them
pub record JoinOf {V : Type 0} (join : V → V → V) (S : V → Type 0) (v : V) : Type 0 where
  pub built : Built join S v
  pub takes_in : (x : V) → S x → join x v ≡ v
