-- Sets of mechanisms as bits, and the mechanisms that routes initialise. Assumes nothing.
use Rattle.std.proofs.Common.{◌≡◌, ℕ, ◌^◌, ◌<◌, ◌≤◌, max, Bool, true, false, cond, ltb, ◌⊎◌, List, [], ◌∷◌, length, sym, refl, ap, ◌∙◌, subst, inl, inr, ⊎_elim, arith}
use Rattle.std.specs.Int.{bit_at}
use Rattle.std.specs.Int.Bits.{bit_and}
use Rattle.std.proofs.lemmas.Nat.Bits.{bit_at_and, bit_at_or, bit_at-zero, bit_at-pow_same, bit_at-pow_other}
use Rattle.std.proofs.lemmas.Bool.{cases_eq, cases_lt, both_ways, eqb-true, eqb-false, lt-ltb, le-ltb, cond-true, cond-false}
use Rattle.rules.specs.declared.line.Line.{Line}
use Rattle.rules.specs.declared.unit.UnitId.{UnitId}
use Rattle.rules.specs.Op.{is_init}
use Rattle.rules.specs.Program.{Program, line_at, end}
use Rattle.rules.specs.Route.{Arrives, Initialises}
use Rattle.walk.specs.Joins.{Built, one, both, JoinOf}
use Rattle.walk.specs.Walked.{along, Brought}
use Rattle.measures.specs.declared.mechanism_set.MechanismSet.{MechanismSet}
use Rattle.measures.specs.Models.{set_of, bit_of, initialised_by, set_after, in_both}
use Rattle.measures.specs.Meaning.{holds, InitialisedByAll}

-- a bit that tells whether P holds
abbrev Tells : ℕ → Type 0 → Type 0
Tells n P = ((n ≡ 1) × P) ⊎ ((n ≡ 0) × (P → ⊥))

either : {P Q : Type 0} (m n : ℕ) → Tells m P → Tells n Q → Tells (max m n) (Q ⊎ P)
either m n (inl a) (inl b) = inl (omega (arith, a.0, b.0), inl b.1)
either m n (inl a) (inr b) = inl (omega (arith, a.0, b.0), inr a.1)
either m n (inr a) (inl b) = inl (omega (arith, a.0, b.0), inl b.1)
either m n (inr a) (inr b) = inr (omega (arith, a.0, b.0), λ h. ⊎_elim b.1 a.1 h)

power_tells : (j k : ℕ) → Tells (bit_at (2 ^ j) k) (j ≡ k)
power_tells j k =
    ⊎_elim (λ e. inl (subst (λ (x : ℕ). bit_at (2 ^ j) x ≡ 1) e (bit_at-pow_same j), e)) (λ n. inr (bit_at-pow_other j k (λ e. n (sym e)), n)) (cases_eq j k)

bit_tells : (j k : ℕ) → k < 32 → Tells (bit_at (bit_of j) k) (j ≡ k)
bit_tells j k h = go (cases_lt j 32)
  where
    go : (j < 32) ⊎ (32 ≤ j) → Tells (bit_at (bit_of j) k) (j ≡ k)
    go (inl b) = subst (λ (x : ℕ). Tells (bit_at x k) (j ≡ k)) (sym (cond-true (ltb j 32) (2 ^ j) 0 (lt-ltb j 32 b))) (power_tells j k)
    go (inr b) = subst (λ (x : ℕ). Tells (bit_at x k) (j ≡ k)) (sym (cond-false (ltb j 32) (2 ^ j) 0 (le-ltb j 32 b))) (inr (bit_at-zero k, λ e. omega arith))

-- a line's bits tell which mechanism it initialises
line_tells : (x : Line) (k : ℕ) → k < 32 → Tells (bit_at (initialised_by x) k) ((is_init x ≡ true) × (x.operand ≡ k))
line_tells x k h = go (is_init x) refl
  where
    with_init : is_init x ≡ true → Tells (bit_at (bit_of x.operand) k) (x.operand ≡ k) → Tells (bit_at (bit_of x.operand) k) ((is_init x ≡ true) × (x.operand ≡ k))
    with_init e (inl a) = inl (a.0, (e, a.1))
    with_init e (inr a) = inr (a.0, λ b. a.1 b.1)

    go : (b : Bool) → is_init x ≡ b → Tells (bit_at (cond b (bit_of x.operand) 0) k) ((is_init x ≡ true) × (x.operand ≡ k))
    go true e = with_init e (bit_tells x.operand k h)
    go false e = inr (bit_at-zero k, λ a. both_ways (is_init x) e a.0)

module _ (p : Program) where
  abbrev counted : List ℕ → MechanismSet
  counted path = along (set_of 0) set_after p path

  -- a route's bits tell which mechanisms it initialises
  route_tells : (path : List ℕ) (k : ℕ) → k < 32 → Tells (bit_at (counted path).bits k) (Initialises p k path)
  route_tells [] k h = inr (bit_at-zero k, λ z. z)
  route_tells (l ∷ path) k h =
      subst (λ (n : ℕ). Tells n (Initialises p k (l ∷ path))) (sym (bit_at_or (counted path).bits (initialised_by (line_at p l)) k))
      (either (bit_at (counted path).bits k) (bit_at (initialised_by (line_at p l)) k) (route_tells path k h) (line_tells (line_at p l) k h))

  -- a bit that is not in a join is not in some member
  missing : (k : ℕ) {S : MechanismSet → Type 0} {v : MechanismSet} → Built in_both S v → bit_at v.bits k ≡ 0 → (x : MechanismSet) × S x × (bit_at x.bits k ≡ 0)
  missing k (one {x} s) e = (x, s, e)
  missing k {S} (both {x} {y} a b) e = go (λ q. missing k a q) (λ q. missing k b q) (cases_eq (bit_at x.bits k) 0)
    where
      go : (bit_at x.bits k ≡ 0 → (z : MechanismSet) × S z × (bit_at z.bits k ≡ 0)) → (bit_at y.bits k ≡ 0 → (z : MechanismSet) × S z × (bit_at z.bits k ≡ 0)) → (bit_at x.bits k ≡ 0) ⊎ (bit_at x.bits k ≡ 0 → ⊥) → (z : MechanismSet) × S z × (bit_at z.bits k ≡ 0)
      go in_left in_right (inl q) = in_left q
      go in_left in_right (inr n) = in_right (let m = bit_at_and x.bits y.bits k in omega arith)

  pub by_all : (u : UnitId) → length p.activation ≤ 32 → (s : MechanismSet) → JoinOf in_both (Brought (set_of 0) set_after p u (end p u)) s → InitialisedByAll p u s
  by_all u few s j = record { by_each = each; not_by_one = lacking }
    where
      each : (k : ℕ) → k < length p.activation → holds s k ≡ true → (path : List ℕ) → Arrives p u path (end p u) → Initialises p k path
      each k h e path a = go (route_tells path k (omega arith))
        where
          go : Tells (bit_at (counted path).bits k) (Initialises p k path) → Initialises p k path
          go (inl t) = t.1
          go (inr t) =
              let one : bit_at s.bits k ≡ 1 = eqb-true (bit_at s.bits k) 1 e in
              let m : bit_at (bit_and (counted path).bits s.bits) k ≡ bit_at s.bits k = ap (λ (x : MechanismSet). bit_at x.bits k) (j.takes_in (counted path) (path, a, refl)) in
              let q = bit_at_and (counted path).bits s.bits k in
              let z = t.0 in
              absurd (omega arith)

      lacking : (k : ℕ) → k < length p.activation → holds s k ≡ false → (path : List ℕ) × Arrives p u path (end p u) × (Initialises p k path → ⊥)
      lacking k h e = go (missing k j.built none)
        where
          none : bit_at s.bits k ≡ 0
          none = let n = eqb-false (bit_at s.bits k) 1 e in ⊎_elim (λ z. z) (λ z. absurd (n (omega arith))) (cases_eq (bit_at s.bits k) 0)

          tells : (path : List ℕ) → bit_at (counted path).bits k ≡ 0 → Tells (bit_at (counted path).bits k) (Initialises p k path) → Initialises p k path → ⊥
          tells path z (inl t) i = omega (arith, t.0)
          tells path z (inr t) i = t.1 i

          go : (x : MechanismSet) × Brought (set_of 0) set_after p u (end p u) x × (bit_at x.bits k ≡ 0) → (path : List ℕ) × Arrives p u path (end p u) × (Initialises p k path → ⊥)
          go (x, (path, a, q), z) = (path, a, tells path (ap (λ (y : MechanismSet). bit_at y.bits k) q ∙ z) (route_tells path k (omega arith)))
