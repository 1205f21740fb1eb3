use Rattle.std.proofs.Common.{Bool, true, false, Decides, MatchBool, refl}
use Rattle.std.proofs.lemmas.Bool.{both_ways}
use Rattle.verdict.proofs.Entries.{place, by_entry, in_entry, no_entry, own}
use Rattle.verdict.proofs.depths.is_bad_line.Goals as goal

told : {P Q : Type 0} (b : Bool) → (P → Q) → (Q → P) → Decides b P → MatchBool b Q (Q → ⊥)
told true f g d = f (d.0 refl)
told false f g d = λ x. both_ways false refl (d.1 (g x))

pub misfits-requires : goal.misfits-requires
misfits-requires c =
    let u = c.args.unit.now in
    let t = c.args.table.now in
    own u t c.requires.surveyed c.args.l c.requires.high (place u t c.requires.surveyed c.args.l c.requires.low _ c.in-Some.is)

pub returns-in-Some : goal.returns-in-Some
returns-in-Some c =
    let u = c.args.unit.now in
    let t = c.args.table.now in
    let s = c.requires.surveyed in
    told c.misfits.result (by_entry u t s c.args.l c.requires.low _ c.in-Some.is) (in_entry u t s c.args.l c.requires.low _ c.in-Some.is) c.misfits.ensures

pub returns-in-None : goal.returns-in-None
returns-in-None c = no_entry c.args.unit.now c.args.table.now c.requires.surveyed c.args.l c.in-None.is
