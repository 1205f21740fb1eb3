-- What the tables of a walk by the measures mean of the unit's routes. Assumes nothing.
use Rattle.std.proofs.Common.{ℕ, max, List, ℤ, pos, vec_items, Option}
use Rattle.rules.specs.Route.{Takes, Greatest}
use Rattle.walk.specs.declared.unit_text.UnitText.{UnitText}
use Rattle.walk.specs.Joins.{JoinOf}
use Rattle.walk.specs.Walked.{Brought, Whole, Walked}
use Rattle.walk.specs.UnitTexts.{program_of, id_of}
use Rattle.text.proofs.Shape.{formed_by_rules}
use Rattle.walk.proofs.Givens.{lines_few, unit_real, unit_sound}
use Rattle.measures.specs.Models.{steps_after, depths_after, wider, paired, beside}
use Rattle.measures.specs.Meaning.{Comes, BoundsHold, DepthRange, Surveyed}
use Rattle.measures.proofs.Longest.{comes_in, takes_at_most}
use Rattle.measures.proofs.Ranges.{range}
use Rattle.measures.proofs.Pairs.{left_part, right_part}
use Rattle.text.specs.declared.marks.Mark.{Mark}

module _ (u : UnitText) (bounds : List ℕ) where
  abbrev marks : List Mark
  marks = vec_items u.formed.now.layout.marks

  pub surveyed : (table : List (Option (ℕ × (ℤ × ℤ)))) → Walked (0, (pos 0, pos 0)) (beside (steps_after bounds) (depths_after marks)) (paired max wider) (program_of u) (id_of u) table → Surveyed (program_of u) (id_of u) bounds table
  surveyed table w = record {
    long = w.long;
    entry = λ l s. (let e = w.entry l s in (e.0, e.1, steps l e.0 e.2, depths l e.0 e.2));
    nowhere_else = w.nowhere_else;
  }
    where
      steps : (l : ℕ) (v : ℕ × (ℤ × ℤ)) → JoinOf (paired max wider) (Brought (0, (pos 0, pos 0)) (beside (steps_after bounds) (depths_after marks)) (program_of u) (id_of u) l) v → BoundsHold (program_of u) (id_of u) bounds → Greatest (Comes (program_of u) (id_of u) l) v.0
      steps l v j right = comes_in (program_of u) (formed_by_rules u.formed.now) (id_of u) (unit_real u) bounds right l v.0 (left_part 0 (pos 0, pos 0) (steps_after bounds) (depths_after marks) (program_of u) (id_of u) l max wider j)

      depths : (l : ℕ) (v : ℕ × (ℤ × ℤ)) → JoinOf (paired max wider) (Brought (0, (pos 0, pos 0)) (beside (steps_after bounds) (depths_after marks)) (program_of u) (id_of u) l) v → DepthRange (program_of u) (id_of u) l v.1.0 v.1.1
      depths l v j = range (program_of u) (id_of u) (unit_sound u) (lines_few u.formed.now) marks u.formed.now.layout.flags_are l v.1 (right_part 0 (pos 0, pos 0) (steps_after bounds) (depths_after marks) (program_of u) (id_of u) l max wider j)

  pub bounded : (n : ℕ) → BoundsHold (program_of u) (id_of u) bounds → JoinOf max (Whole 0 (steps_after bounds) (program_of u) (id_of u)) n → Greatest (Takes (program_of u) (id_of u)) n
  bounded n right j = takes_at_most (program_of u) (formed_by_rules u.formed.now) (id_of u) (unit_real u) bounds right n j
