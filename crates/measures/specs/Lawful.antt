-- The measures keep the laws of measures. Assumes nothing.
-- kept: the proofs stand here since an impl's `ghost laws` takes a term of its own crate's specs/ alone, and a file of specs/ may not name one of proofs/; both were tried, and are refused.
use Rattle.std.specs.Prelude.{◌≡◌, ℕ, ◌+◌, ◌-◌, ◌^◌, min, max, List, ℤ, pos, negsuc, ◌+ℤ◌, bit_and, bit_or}
use Rattle.std.proofs.Common.{ap, arith}
use Rattle.std.proofs.lemmas.Nat.{and_assoc, and_comm}
use Rattle.std.proofs.lemmas.Nat.Bits.{same_from_bits, bit_at_and, bit_at_or}
use Rattle.std.specs.Int.Bits.{and_self}
use borrow.Author.Differences.{up, down}
use Rattle.std.specs.Int.{int_min, int_max, saturate_to_bits}
use Rattle.std.proofs.lemmas.Int.{ints, clamps}
use Rattle.rules.specs.declared.line.Line.{Line}
use Rattle.walk.specs.Joins.{Laws}
use Rattle.measures.specs.Models.{bound_of, steps_after, depths_after, wider, set_of, initialised_by, set_after, in_both, paired, beside}
use Rattle.text.specs.declared.marks.Mark.{Mark}

-- steps, joined by the larger
pub steps_laws : (bounds : List ℕ) → Laws max (steps_after bounds)
steps_laws bounds = record {
  comm = λ a b. omega arith;
  assoc = λ a b c. omega arith;
  idem = λ a. omega arith;
  spread = λ i l a b. spread (bound_of bounds l) a b;
}
  where
    spread : (n a b : ℕ) → min (max a b + 1 + n) (2 ^ 32 - 1) ≡ max (min (a + 1 + n) (2 ^ 32 - 1)) (min (b + 1 + n) (2 ^ 32 - 1))
    spread n a b = omega arith

pair : {x y z w : ℤ} → x ≡ y → z ≡ w → ◌≡◌ {A = ℤ × ℤ} (x, z) (y, w)
pair p q = λ i. (p i, q i)

-- an integer z is read as `up z - down z`
sat_is : (z : ℤ) → up (saturate_to_bits 31 z) + 2 ^ 31 + down z ≡ down (saturate_to_bits 31 z) + max (down z) (min (2 ^ 32 - 1 + down z) (up z + 2 ^ 31))
sat_is (pos n) = omega arith
sat_is (negsuc n) = omega arith

min_spread : (d a b : ℤ) → saturate_to_bits 31 (int_min a b +ℤ d) ≡ int_min (saturate_to_bits 31 (a +ℤ d)) (saturate_to_bits 31 (b +ℤ d))
min_spread d a b = omega (arith, ints, clamps, sat_is)

max_spread : (d a b : ℤ) → saturate_to_bits 31 (int_max a b +ℤ d) ≡ int_max (saturate_to_bits 31 (a +ℤ d)) (saturate_to_bits 31 (b +ℤ d))
max_spread d a b = omega (arith, ints, clamps, sat_is)

-- depths, joined by the lower and the higher
pub depth_laws : (marks : List Mark) → Laws wider (depths_after marks)
depth_laws marks = record {
  comm = λ a b. pair (omega (arith, ints, clamps)) (omega (arith, ints, clamps));
  assoc = λ a b c. pair (omega (arith, ints, clamps)) (omega (arith, ints, clamps));
  idem = λ a. pair (omega (arith, ints, clamps)) (omega (arith, ints, clamps));
  spread = λ i l a b. pair (min_spread _ a.0 b.0) (max_spread _ a.1 b.1);
}

or_spread : (c a b : ℕ) → bit_or (bit_and a b) c ≡ bit_and (bit_or a c) (bit_or b c)
or_spread c a b =
    same_from_bits _ _ (λ i. omega (arith, bit_at_or (bit_and a b) c i, bit_at_and a b i, bit_at_and (bit_or a c) (bit_or b c) i, bit_at_or a c i, bit_at_or b c i))

-- initialised mechanisms, joined by intersection
pub set_laws : Laws in_both set_after
set_laws = record {
  comm = λ a b. ap set_of (and_comm a.bits b.bits);
  assoc = λ a b c. ap set_of (and_assoc c.bits a.bits b.bits);
  idem = λ a. ap set_of (and_self a.bits);
  spread = λ i l a b. ap set_of (or_spread (initialised_by l) a.bits b.bits);
}

-- two measures carried together
pub both_laws : {X Y : Type 0} {f : X → X → X} {g : Y → Y → Y} {e : ℕ → Line → X → X} {h : ℕ → Line → Y → Y} → Laws f e → Laws g h → Laws (paired f g) (beside e h)
both_laws p q = record {
  comm = λ a b i. (p.comm a.0 b.0 i, q.comm a.1 b.1 i);
  assoc = λ a b c i. (p.assoc a.0 b.0 c.0 i, q.assoc a.1 b.1 c.1 i);
  idem = λ a i. (p.idem a.0 i, q.idem a.1 i);
  spread = λ n l a b i. (p.spread n l a.0 b.0 i, q.spread n l a.1 b.1 i);
}
