use Rattle.std.proofs.Common.{◌≡◌, ℕ, Bool, sym, ap, subst}
use Rattle.std.proofs.lemmas.Option.{MatchOption-at_some}
use Rattle.rules.specs.declared.unit.UnitId.{UnitId}
use Rattle.rules.specs.declared.unit.UnitId.TheVariants.{Module}
use Rattle.rules.specs.Program.{Program}
use Rattle.rules.specs.Verdict.{MissesInit, misses}
use Rattle.rules.specs.Named.{module_number, unit_named}
use Rattle.image.specs.Held.{meant}
use Rattle.measures.specs.Meaning.{LeavesOut, TellsLeftOut}
use Rattle.text.specs.declared.fault.TextFault.TheVariants.{Uninitialised}
use Rattle.text.specs.declared.formed.Formed.{Formed}
use Rattle.walk.specs.UnitTexts.{program_of, id_of}
use Rattle.walk.specs.declared.unit_text.UnitText.{UnitText}
use Rattle.verdict.specs.Judged.{TellsMissed}
use Rattle.verdict.proofs.initialised.initialised.Goals as goal

missed : (p : Program) (m : ℕ) → LeavesOut p (Module m) → MissesInit p m
missed p m (k, path, h, a, n) = misses a h n

here : (u : UnitText) (f : Formed) (m : ℕ) (b : Bool) → (u.formed.now ≡ f) × ((id_of u) ≡ Module m) → TellsLeftOut (program_of u) (id_of u) b → TellsLeftOut (meant f.layout.program) (Module m) b
here u f m b e t =
    subst (λ (v : UnitId). TellsLeftOut (meant f.layout.program) v b) e.1 (subst (λ (g : Formed). TellsLeftOut (meant g.layout.program) (id_of u) b) e.0 t)

pub returns-else-branch : goal.returns-else-branch
returns-else-branch c =
    let p = meant c.args.formed.now.layout.program in
    let m = module_number c.args.«module» in
    let t = here c.unwrap-unit.result c.args.formed.now m c.in_ok-initialises_all.field-0 (let u = MatchOption-at_some _ _ _ c.unwrap-unit.ensures c.named_text.ensures in (u.0, ap unit_named u.1)) c.in_ok-initialises_all.ensures in
    subst (TellsMissed p m) (sym c.into-else-branch.ensures) (ap Uninitialised c.into.ensures, missed p m (t.on_no c.if-branch.false))
