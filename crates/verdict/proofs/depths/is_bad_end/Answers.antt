use Rattle.std.proofs.Common.{◌≡◌, ℕ, Bool, true, false, not, eqb, ℤ, pos, refl, ap, subst, inl, inr, arith, w32, of_z, rules, sym}
use Rattle.std.proofs.lemmas.Int.{ints}
use Rattle.std.proofs.lemmas.Bool.{both_ways}
use Rattle.walk.specs.UnitTexts.{program_of, id_of}
use Rattle.walk.proofs.Givens.{unit_sound}
use Rattle.verdict.specs.Depths.{Misfits}
use Rattle.verdict.proofs.Entries.{in_order, room, by_entry, in_entry, no_entry}
use Rattle.verdict.proofs.Ranges.{same_depth, level_end, low_end, high_end}
use Rattle.verdict.proofs.depths.is_bad_end.Goals as goal

not_true : (b : Bool) → not b ≡ true → b ≡ false
not_true false h = refl
not_true true h = absurd (both_ways false refl h)

pub overflow_sub-unit : goal.overflow_sub-unit
overflow_sub-unit c = in_order c.args.unit.now c.args.table.now c.requires

pub bounds : goal.bounds
bounds c =
    let u = c.args.unit.now in
    room u c.args.table.now c.requires u.end (in_order u c.args.table.now c.requires) (omega arith)

pub returns-then-low-ne0 : goal.returns-then-low-ne0
returns-then-low-ne0 c =
    let u = c.args.unit.now in
    let t = c.args.table.now in
    let low = c.in-Some.low in
    let high = c.in-Some.high in
    let m : Misfits (program_of u) (id_of u) u.end low high = subst (λ (l : ℕ). Misfits (program_of u) (id_of u) l low high) (sym u.end_is) (low_end (program_of u) (id_of u) (unit_sound u) low high (λ z. omega (arith, ints))) in
    (λ h. by_entry u t c.requires u.end (in_order u t c.requires) _ c.in-Some.is m, λ b. search rules)

pub returns-else-low-ne0 : goal.returns-else-low-ne0
returns-else-low-ne0 c =
    let u = c.args.unit.now in
    let t = c.args.table.now in
    let low = c.in-Some.low in
    let high = c.in-Some.high in
    let first = in_order u t c.requires in
    let P = λ (l : ℕ). Misfits (program_of u) (id_of u) l low high in
    let zero : low ≡ pos 0 = omega (arith, ints) in
    elim (same_depth high (pos 0)) [
      | inl z ↦ (
        λ h. absurd (let f : eqb (of_z w32 high) 0 ≡ true = ap (λ (x : ℤ). eqb (of_z w32 x) 0) z in both_ways (eqb (of_z w32 high) 0) (not_true (eqb (of_z w32 high) 0) h) f),
        λ b. absurd (level_end (program_of u) (id_of u) (unit_sound u) low high zero z (subst P u.end_is (in_entry u t c.requires u.end first _ c.in-Some.is b))),
      )
      | inr n ↦ (
        λ h. by_entry u t c.requires u.end first _ c.in-Some.is (subst P (sym u.end_is) (high_end (program_of u) (id_of u) (unit_sound u) low high n)),
        λ b. search rules,
      )
    ]

pub returns-in-None : goal.returns-in-None
returns-in-None c =
    let u = c.args.unit.now in
    (λ e. absurd (both_ways false refl e), λ b. absurd (no_entry u c.args.table.now c.requires u.end c.in-None.is b))
