-- The entries of a unit's survey, as tests read them. Assumes nothing.
use Rattle.std.proofs.Common.{◌≡◌, ℕ, ◌+◌, ◌-◌, ◌<◌, ◌≤◌, List, [], length, get_or, ℤ, Some, None, Option, sym, ap, ◌∙◌, subst, inl, inr, arith}
use Rattle.rules.specs.Program.{Own, first}
use Rattle.measures.specs.Meaning.{Surveyed, DepthRange}
use Rattle.walk.specs.Walked.{OwnOrEnd}
use Rattle.walk.specs.UnitTexts.{program_of, id_of}
use Rattle.walk.specs.declared.unit_text.UnitText.{UnitText}
use Rattle.walk.proofs.Givens.{unit_sound}
use Rattle.walk.proofs.Sound.{place_low, place_high}
use Rattle.walk.proofs.Walking.{none_some}
use Rattle.verdict.specs.Depths.{IsBadIn, differ, misfit, Misfits}
use Rattle.verdict.proofs.Ranges.{bad_from, bad_to}

abbrev Entry : Type 0
Entry = ℕ × (ℤ × ℤ)

module _ (u : UnitText) (table : List (Option Entry)) (s : Surveyed (program_of u) (id_of u) [] table) where
  pub in_order : u.first ≤ u.end
  in_order = let a = u.first_is in let b = u.end_is in let o = (unit_sound u).order in omega arith

  pub room : (l : ℕ) → u.first ≤ l → l ≤ u.end → l - u.first < length table
  room l h g = let a = u.first_is in let b = u.end_is in let n = s.long in omega arith

  offset_is : (l : ℕ) → l - first (program_of u) (id_of u) ≡ l - u.first
  offset_is l = let a = u.first_is in omega arith

  pub place : (l : ℕ) → u.first ≤ l → (v : Entry) → get_or table (l - u.first) None ≡ Some v → OwnOrEnd (program_of u) (id_of u) l
  place l h v e =
      let a = u.first_is in
      let k : first (program_of u) (id_of u) + (l - u.first) ≡ l = omega arith in
      subst (OwnOrEnd (program_of u) (id_of u)) k (s.nowhere_else (l - u.first) v e)

  range : (l : ℕ) → u.first ≤ l → (v : Entry) → get_or table (l - u.first) None ≡ Some v → DepthRange (program_of u) (id_of u) l v.1.0 v.1.1
  range l h v e =
      let w = s.entry l (place l h v e) in
      let here : get_or table (l - u.first) None ≡ Some w.0 = ap (λ (k : ℕ). get_or table k None) (sym (offset_is l)) ∙ w.1 in
      let q : w.0 ≡ v = cc in
      subst (λ (x : Entry). DepthRange (program_of u) (id_of u) l x.1.0 x.1.1) q w.3

  -- routes that come to a place do not serve exactly where its entry does not
  pub by_entry : (l : ℕ) → u.first ≤ l → (v : Entry) → get_or table (l - u.first) None ≡ Some v → Misfits (program_of u) (id_of u) l v.1.0 v.1.1 → IsBadIn (program_of u) (id_of u) l
  by_entry l h v e m = bad_from (program_of u) (id_of u) l v.1.0 v.1.1 (range l h v e) m

  pub in_entry : (l : ℕ) → u.first ≤ l → (v : Entry) → get_or table (l - u.first) None ≡ Some v → IsBadIn (program_of u) (id_of u) l → Misfits (program_of u) (id_of u) l v.1.0 v.1.1
  in_entry l h v e b = bad_to (program_of u) (id_of u) l v.1.0 v.1.1 (range l h v e) b

  -- no route comes where there is no entry
  arrived : (l : ℕ) → IsBadIn (program_of u) (id_of u) l → OwnOrEnd (program_of u) (id_of u) l
  arrived l (differ x y n) = (unit_sound u).stays x
  arrived l (misfit x o) = (unit_sound u).stays x

  pub no_entry : (l : ℕ) → get_or table (l - u.first) None ≡ None → IsBadIn (program_of u) (id_of u) l → ⊥
  no_entry l n b =
      let w = s.entry l (arrived l b) in
      none_some n (ap (λ (k : ℕ). get_or table k None) (sym (offset_is l)) ∙ w.1)

  -- a line below the end that has an entry is an own line
  pub own : (l : ℕ) → l < u.end → OwnOrEnd (program_of u) (id_of u) l → Own (program_of u) (id_of u) l
  own l h (inl o) = o
  own l h (inr e) = absurd (let b = u.end_is in omega arith)

  -- outside the unit's lines no route comes
  pub within : (l : ℕ) → IsBadIn (program_of u) (id_of u) l → (u.first ≤ l) × (l ≤ u.end)
  within l b =
      let o = arrived l b in
      let low = place_low (unit_sound u) l o in
      let high = place_high (unit_sound u) l o in
      (omega (arith, u.first_is), omega (arith, u.end_is))
