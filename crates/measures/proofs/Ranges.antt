-- The depths of routes: their sums never reach the ends of their range. Assumes nothing.
use Rattle.std.proofs.Common.{◌≡◌, ℕ, suc, ◌<◌, ◌≤◌, Bool, true, false, cond, ◌&&◌, List, [], ◌∷◌, length, ℤ, pos, negsuc, ◌+ℤ◌, ◌≤ℤ◌, sym, refl, ap, ◌∙◌, arith}
use lib.Signed.{lt_z}
use Rattle.std.specs.Int.{int_min, int_max, saturate_to_bits}
use Rattle.std.proofs.lemmas.Int.{ints, clamps}
use Rattle.rules.specs.declared.unit.UnitId.{UnitId}
use Rattle.rules.specs.declared.op.Mnemonic.TheVariants as name
use Rattle.rules.specs.Op.{is}
use Rattle.rules.specs.Program.{Program, line_at, pushes, pops}
use Rattle.rules.specs.Route.{Arrives, at_entry, passed, change, depth}
use Rattle.text.specs.Tables.{FlagsAre}
use Rattle.walk.specs.Joins.{Built, one, both, JoinOf}
use Rattle.walk.specs.Walked.{along, Brought}
use Rattle.walk.proofs.Sound.{Sound}
use Rattle.measures.specs.Models.{change_of, depths_after, wider}
use Rattle.measures.specs.Meaning.{DepthRange}
use Rattle.text.specs.declared.marks.Mark.{Mark}

pair : {x y z w : ℤ} → x ≡ y → z ≡ w → ◌≡◌ {A = ℤ × ℤ} (x, z) (y, w)
pair p q = λ i. (p i, q i)

-- a small number is not stopped
saturated_small : (z : ℤ) (n : ℕ) → pos 0 ≤ℤ (z +ℤ pos n) → z ≤ℤ pos n → n ≤ 2048 → saturate_to_bits 31 z ≡ z
saturated_small (pos a) n low high few = let h : a ≤ n = omega (arith, ints) in ap pos (omega arith)
saturated_small (negsuc a) n low high few = let h : a < n = omega (arith, ints) in ap negsuc (omega arith)

change_small : (a b : Bool) → (negsuc 0 ≤ℤ cond a (pos 1) (cond b (negsuc 0) (pos 0))) × (cond a (pos 1) (cond b (negsuc 0) (pos 0)) ≤ℤ pos 1)
change_small true b = (omega (arith, ints), omega (arith, ints))
change_small false true = (omega (arith, ints), omega (arith, ints))
change_small false false = (omega (arith, ints), omega (arith, ints))

-- a depth is no larger, either way, than the number of lines
depth_small : (p : Program) (path : List ℕ) → (pos 0 ≤ℤ (depth p path +ℤ pos (length path))) × (depth p path ≤ℤ pos (length path))
depth_small p [] = (omega (arith, ints), omega (arith, ints))
depth_small p (l ∷ path) =
    let h = depth_small p path in
    let c = change_small (pushes p l) (pops p l) in
    step (depth p path) (change p l) (length path) h.0 h.1 c.0 c.1
  where
    step : (d c : ℤ) (n : ℕ) → pos 0 ≤ℤ (d +ℤ pos n) → d ≤ℤ pos n → negsuc 0 ≤ℤ c → c ≤ℤ pos 1 → (pos 0 ≤ℤ ((d +ℤ c) +ℤ pos (suc n))) × ((d +ℤ c) ≤ℤ pos (suc n))
    step d c n a b e f = (omega (arith, ints), omega (arith, ints))

-- the least of some values is one of them, and so is the greatest
lowest : {S : ℤ × ℤ → Type 0} {v : ℤ × ℤ} → Built wider S v → (x : ℤ × ℤ) × S x × (x.0 ≡ v.0)
lowest (one {x} s) = (x, s, refl)
lowest {S} (both {x} {y} p q) = go (lt_z y.0 x.0) (lowest p) (lowest q)
  where
    go : (b : Bool) → (z : ℤ × ℤ) × S z × (z.0 ≡ x.0) → (z : ℤ × ℤ) × S z × (z.0 ≡ y.0) → (z : ℤ × ℤ) × S z × (z.0 ≡ cond b y.0 x.0)
    go true a b = b
    go false a b = a

highest : {S : ℤ × ℤ → Type 0} {v : ℤ × ℤ} → Built wider S v → (x : ℤ × ℤ) × S x × (x.1 ≡ v.1)
highest (one {x} s) = (x, s, refl)
highest {S} (both {x} {y} p q) = go (lt_z y.1 x.1) (highest p) (highest q)
  where
    go : (b : Bool) → (z : ℤ × ℤ) × S z × (z.1 ≡ x.1) → (z : ℤ × ℤ) × S z × (z.1 ≡ y.1) → (z : ℤ × ℤ) × S z × (z.1 ≡ cond b x.1 y.1)
    go true a b = a
    go false a b = b

module _ (p : Program) (u : UnitId) (sound : Sound p u) (few : length p.lines ≤ 2048) (marks : List Mark) (flags_are : FlagsAre p marks) where
  change_is : (l : ℕ) → l < length p.lines → change_of marks l (line_at p l) ≡ change p l
  change_is l h = ap (λ (f : Bool). cond (is name.Ldr (line_at p l) && f) (pos 1) (cond (pops p l) (negsuc 0) (pos 0))) (flags_are l h)

  abbrev counted : List ℕ → ℤ × ℤ
  counted path = along (pos 0, pos 0) (depths_after marks) p path

  -- along a route both numbers are its depth
  depth_along : {path : List ℕ} {l : ℕ} → Arrives p u path l → counted path ≡ (depth p path, depth p path)
  depth_along (at_entry e) = refl
  depth_along (passed {path} {l} a o w) =
      let h = o.within in
      let short = sound.short a in
      let d = depth_small p (l ∷ path) in
      let whole : saturate_to_bits 31 (depth p path +ℤ change_of marks l (line_at p l)) ≡ depth p path +ℤ change p l =
      ap (λ (c : ℤ). saturate_to_bits 31 (depth p path +ℤ c)) (change_is l h) ∙ saturated_small (depth p (l ∷ path)) (suc (length path)) d.0 d.1 (omega arith) in
      ap (depths_after marks l (line_at p l)) (depth_along a) ∙ pair whole whole

  -- the join of the depths is the lowest and the highest
  pub range : (l : ℕ) (v : ℤ × ℤ) → JoinOf wider (Brought (pos 0, pos 0) (depths_after marks) p u l) v → DepthRange p u l v.0 v.1
  range l v j = record { none_below = below; none_above = above; low_attained = low (lowest j.built); high_attained = high (highest j.built) }
    where
      least : (a b : ℤ) → int_min a b ≡ b → b ≤ℤ a
      least a b e = omega (arith, ints, clamps)

      most : (a b : ℤ) → int_max a b ≡ b → a ≤ℤ b
      most a b e = omega (arith, ints, clamps)

      below : (path : List ℕ) → Arrives p u path l → v.0 ≤ℤ depth p path
      below path a = least (depth p path) v.0 (ap (λ (x : ℤ × ℤ). x.0) (j.takes_in (depth p path, depth p path) (path, a, depth_along a)))

      above : (path : List ℕ) → Arrives p u path l → depth p path ≤ℤ v.1
      above path a = most (depth p path) v.1 (ap (λ (x : ℤ × ℤ). x.1) (j.takes_in (depth p path, depth p path) (path, a, depth_along a)))

      low : (x : ℤ × ℤ) × Brought (pos 0, pos 0) (depths_after marks) p u l x × (x.0 ≡ v.0) → (path : List ℕ) × Arrives p u path l × (depth p path ≡ v.0)
      low (x, (path, a, e), q) = (path, a, ap (λ (y : ℤ × ℤ). y.0) (sym (depth_along a) ∙ e) ∙ q)

      high : (x : ℤ × ℤ) × Brought (pos 0, pos 0) (depths_after marks) p u l x × (x.1 ≡ v.1) → (path : List ℕ) × Arrives p u path l × (depth p path ≡ v.1)
      high (x, (path, a, e), q) = (path, a, ap (λ (y : ℤ × ℤ). y.1) (sym (depth_along a) ∙ e) ∙ q)
