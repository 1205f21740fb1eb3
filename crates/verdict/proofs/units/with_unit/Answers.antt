use Rattle.std.proofs.Common.{◌≡◌, ℕ, ◌+◌, Option, sym, ap, ◌∙◌, subst}
use Rattle.rules.specs.declared.unit.UnitId.{UnitId}
use Rattle.rules.specs.Program.{Real}
use Rattle.rules.specs.Named.{unit_named}
use Rattle.image.specs.Held.{meant}
use Rattle.text.specs.declared.formed.Formed.{Formed}
use Rattle.text.specs.Finds.{Finds}
use Rattle.walk.specs.UnitTexts.{program_of, id_of}
use Rattle.walk.specs.declared.unit_text.UnitText.{UnitText}
use Rattle.walk.proofs.Givens.{unit_real}
use Rattle.verdict.specs.Depths.{IsBadIn}
use Rattle.verdict.specs.Units.{nth_unit, earliest, IsBadAmong}
use Rattle.verdict.proofs.Firsts.{with_unit, without_unit}
use Rattle.verdict.proofs.units.with_unit.Goals as goal

-- the first bad place of the unit, over the program that was handed in
taken : (u : UnitText) (f : Formed) (i : ℕ) (v : UnitId) (a b r : Option ℕ) → u.formed.now ≡ f → (id_of u) ≡ v → v ≡ nth_unit i → r ≡ earliest a b → Finds (IsBadAmong (meant f.layout.program) i) a → Finds (IsBadIn (program_of u) (id_of u)) b → Finds (IsBadAmong (meant f.layout.program) (i + 1)) r
taken u f i v a b r e q n k x y =
    subst (Finds (IsBadAmong (meant f.layout.program) (i + 1))) (sym k)
    (with_unit (meant f.layout.program) i (id_of u) (q ∙ n) (subst (λ (g : Formed). Real (meant g.layout.program) (id_of u)) e (unit_real u)) a b x (subst (λ (g : Formed). Finds (IsBadIn (meant g.layout.program) (id_of u)) b) e y))

pub returns-in_default : goal.returns-in_default
returns-in_default c = without_unit (meant c.args.formed.now.layout.program) c.args.i (unit_named c.unit_at.result) c.unit_at.ensures c.in_default.ensures c.args.first c.requires

pub returns : goal.returns
returns c = taken c.in-Some.unit c.args.formed.now c.args.i (unit_named c.unit_at.result) c.args.first c.in_ok-found.found c.earlier.result c.in-Some.ensures.0 (ap unit_named c.in-Some.ensures.1) c.unit_at.ensures c.earlier.ensures c.requires c.in_ok-found.ensures
