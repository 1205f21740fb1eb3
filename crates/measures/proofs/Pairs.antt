-- Two measures carried together give what each gives alone. Assumes nothing.
use Rattle.std.proofs.Common.{◌≡◌, ℕ, List, [], ◌∷◌, sym, refl, ap, ◌∙◌}
use Rattle.rules.specs.declared.line.Line.{Line}
use Rattle.rules.specs.declared.unit.UnitId.{UnitId}
use Rattle.rules.specs.Program.{Program, line_at}
use Rattle.walk.specs.Joins.{Built, one, both, JoinOf}
use Rattle.walk.specs.Walked.{along, Brought}
use Rattle.walk.proofs.Covering.{joinof_same}
use Rattle.measures.specs.Models.{paired, beside}

module _ {X Y : Type 0} (f : X → X → X) (g : Y → Y → Y) {S : X × Y → Type 0} where
  left_built : {v : X × Y} → Built (paired f g) S v → Built f (λ a. (b : Y) × S (a, b)) v.0
  left_built (one {x} s) = one (x.1, s)
  left_built (both p q) = both (left_built p) (left_built q)

  right_built : {v : X × Y} → Built (paired f g) S v → Built g (λ b. (a : X) × S (a, b)) v.1
  right_built (one {x} s) = one (x.0, s)
  right_built (both p q) = both (right_built p) (right_built q)

  left_join : {v : X × Y} → JoinOf (paired f g) S v → JoinOf f (λ a. (b : Y) × S (a, b)) v.0
  left_join j = record { built = left_built j.built; takes_in = λ a m. ap (λ (z : X × Y). z.0) (j.takes_in (a, m.0) m.1) }

  right_join : {v : X × Y} → JoinOf (paired f g) S v → JoinOf g (λ b. (a : X) × S (a, b)) v.1
  right_join j = record { built = right_built j.built; takes_in = λ b m. ap (λ (z : X × Y). z.1) (j.takes_in (m.0, b) m.1) }

module _ {X Y : Type 0} (s : X) (t : Y) (e : ℕ → Line → X → X) (h : ℕ → Line → Y → Y) (p : Program) where
  along_both : (path : List ℕ) → along (s, t) (beside e h) p path ≡ (along s e p path, along t h p path)
  along_both [] = refl
  along_both (l ∷ path) = ap (beside e h l (line_at p l)) (along_both path)

  module _ (u : UnitId) (l : ℕ) (f : X → X → X) (g : Y → Y → Y) {v : X × Y} where
    pub left_part : JoinOf (paired f g) (Brought (s, t) (beside e h) p u l) v → JoinOf f (Brought s e p u l) v.0
    left_part j = joinof_same (λ x m. there x m) (λ x m. back x m) (left_join f g j)
      where
        there : (a : X) → (b : Y) × Brought (s, t) (beside e h) p u l (a, b) → Brought s e p u l a
        there a (b, (path, r, q)) = (path, r, ap (λ (z : X × Y). z.0) (sym (along_both path) ∙ q))

        back : (a : X) → Brought s e p u l a → (b : Y) × Brought (s, t) (beside e h) p u l (a, b)
        back a (path, r, q) = (along t h p path, (path, r, along_both path ∙ ap (λ (z : X). (z, along t h p path)) q))

    pub right_part : JoinOf (paired f g) (Brought (s, t) (beside e h) p u l) v → JoinOf g (Brought t h p u l) v.1
    right_part j = joinof_same (λ x m. there x m) (λ x m. back x m) (right_join f g j)
      where
        there : (b : Y) → (a : X) × Brought (s, t) (beside e h) p u l (a, b) → Brought t h p u l b
        there b (a, (path, r, q)) = (path, r, ap (λ (z : X × Y). z.1) (sym (along_both path) ∙ q))

        back : (b : Y) → Brought t h p u l b → (a : X) × Brought (s, t) (beside e h) p u l (a, b)
        back b (path, r, q) = (along s e p path, (path, r, along_both path ∙ ap (λ (z : Y). (along s e p path, z)) q))
