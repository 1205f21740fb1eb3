-- From the lowest and the highest depth at a line to what all its routes have. Assumes nothing.
use Rattle.std.proofs.Common.{◌≡◌, ℕ, ◌⊎◌, List, ℤ, pos, negsuc, ◌≤ℤ◌, sym, refl, ap, ◌∙◌, subst, inl, inr, arith}
use Rattle.std.proofs.lemmas.Int.{ints}
use Rattle.std.proofs.lemmas.Bool.{cases_eq}
use Rattle.rules.specs.declared.unit.UnitId.{UnitId}
use Rattle.rules.specs.Program.{Program, Own, end}
use Rattle.rules.specs.Route.{Arrives, depth}
use Rattle.rules.specs.Verdict.{OffBalance}
use Rattle.measures.specs.Meaning.{DepthRange}
use Rattle.walk.proofs.Sound.{Sound}
use Rattle.verdict.specs.Depths.{IsBadIn, differ, misfit, Misfits}

pub same_depth : (a b : ℤ) → (a ≡ b) ⊎ (a ≡ b → ⊥)
same_depth (pos a) (pos b) = elim (cases_eq a b) [ inl e ↦ inl (ap pos e) | inr n ↦ inr (λ e. n (cc e)) ]
same_depth (pos a) (negsuc b) = inr (λ e. let z : ◌≡◌ {A = ℕ} 0 1 = cc e in omega arith)
same_depth (negsuc a) (pos b) = inr (λ e. let z : ◌≡◌ {A = ℕ} 0 1 = cc e in omega arith)
same_depth (negsuc a) (negsuc b) = elim (cases_eq a b) [ inl e ↦ inl (ap negsuc e) | inr n ↦ inr (λ e. n (cc e)) ]

between : (low d high : ℤ) → low ≤ℤ d → d ≤ℤ high → low ≡ high → d ≡ low
between low d high a b e = omega (arith, ints)

module _ (p : Program) (u : UnitId) (l : ℕ) (low high : ℤ) (range : DepthRange p u l low high) where
  -- every route comes with the one depth, where there is one
  one_depth : low ≡ high → (path : List ℕ) → Arrives p u path l → depth p path ≡ low
  one_depth e path a = between low (depth p path) high (range.none_below path a) (range.none_above path a) e

  pub bad_from : Misfits p u l low high → IsBadIn p u l
  bad_from (inl n) = differ range.low_attained.1 range.high_attained.1 (λ e. n (sym range.low_attained.2 ∙ e ∙ range.high_attained.2))
  bad_from (inr o) = misfit range.low_attained.1 (subst (OffBalance p u l) (sym range.low_attained.2) o)

  pub bad_to : IsBadIn p u l → Misfits p u l low high
  bad_to (differ {a = a} {b = b} x y n) = inl (λ e. n (one_depth e a x ∙ sym (one_depth e b y)))
  bad_to (misfit {a = a} x o) = elim (same_depth low high) [ inl e ↦ inr (subst (OffBalance p u l) (one_depth e a x) o) | inr n ↦ inl n ]

-- at the unit's end only the depth 0 serves
module _ (p : Program) (u : UnitId) (sound : Sound p u) (low high : ℤ) where
  not_own : Own p u (end p u) → ⊥
  not_own o = let h = sound.high (end p u) o in omega arith

  pub level_end : low ≡ pos 0 → high ≡ pos 0 → Misfits p u (end p u) low high → ⊥
  level_end e f (inl n) = n (e ∙ sym f)
  level_end e f (inr (inl (o, h, q))) = not_own o
  level_end e f (inr (inr (inl (o, h, q)))) = not_own o
  level_end e f (inr (inr (inr (inl (o, h, q))))) = not_own o
  level_end e f (inr (inr (inr (inr (h, n))))) = n e

  pub low_end : (low ≡ pos 0 → ⊥) → Misfits p u (end p u) low high
  low_end n = inr (inr (inr (inr (refl, n))))

  pub high_end : (high ≡ pos 0 → ⊥) → Misfits p u (end p u) low high
  high_end n = elim (same_depth low high) [ inl e ↦ low_end (λ z. n (sym e ∙ z)) | inr m ↦ inl m ]
