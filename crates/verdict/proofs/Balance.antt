-- The depths that do not serve at an own line, decided case by case. Assumes nothing.
use Rattle.std.proofs.Common.{◌≡◌, ℕ, ◌<◌, Bool, true, false, ◌||◌, ◌⊎◌, ℤ, pos, refl, inl, inr, arith}
use Rattle.std.proofs.lemmas.Bool.{both_ways}
use Rattle.rules.specs.declared.unit.UnitId.{UnitId}
use Rattle.rules.specs.Op.{is_begin, is_end, is_exit}
use Rattle.rules.specs.Program.{Program, Own, line_at, end, pushes}
use Rattle.verdict.specs.Depths.{Misfits}

none_of_three : (a b c : Bool) → (a || (b || c)) ≡ false → (a ≡ true) ⊎ ((b ≡ true) ⊎ (c ≡ true)) → ⊥
none_of_three a b c h (inl e) = three a b c h e
  where
    three : (a b c : Bool) → (a || (b || c)) ≡ false → a ≡ true → ⊥
    three true b c h e = both_ways true h refl
    three false b c h e = both_ways false refl e
none_of_three a b c h (inr (inl e)) = three a b c h e
  where
    three : (a b c : Bool) → (a || (b || c)) ≡ false → b ≡ true → ⊥
    three true b c h e = both_ways true h refl
    three false true c h e = both_ways true h refl
    three false false c h e = both_ways false refl e
none_of_three a b c h (inr (inr e)) = three a b c h e
  where
    three : (a b c : Bool) → (a || (b || c)) ≡ false → c ≡ true → ⊥
    three true b c h e = both_ways true h refl
    three false true c h e = both_ways true h refl
    three false false true h e = both_ways true h refl
    three false false false h e = both_ways false refl e

module _ (p : Program) (u : UnitId) (l : ℕ) (own : Own p u l) (below : l < end p u) (low high : ℤ) (same : low ≡ high) where
  -- EX-type, MECH_BEGIN and MECH_END want no cell
  abbrev bare : Bool
  bare = is_exit (line_at p l) || (is_begin (line_at p l) || is_end (line_at p l))

  -- with cells stacked, where a line wants some, only a push onto eight does not serve
  pub pushed_at_eight : (low ≡ pos 0 → ⊥) → bare ≡ false → Misfits p u l low high → (pushes p l ≡ true) × (low ≡ pos 8)
  pushed_at_eight n b (inl m) = absurd (m same)
  pushed_at_eight n b (inr (inl (o, h, e))) = absurd (n e)
  pushed_at_eight n b (inr (inr (inl (o, h, e)))) = (h, e)
  pushed_at_eight n b (inr (inr (inr (inl (o, k, m))))) = absurd (none_of_three (is_exit (line_at p l)) (is_begin (line_at p l)) (is_end (line_at p l)) b k)
  pushed_at_eight n b (inr (inr (inr (inr (e, m))))) = absurd (omega arith)

  pub push_misfits : low ≡ pos 8 → pushes p l ≡ true → Misfits p u l low high
  push_misfits e h = inr (inr (inl (own, h, e)))
