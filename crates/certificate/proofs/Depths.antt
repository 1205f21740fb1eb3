-- The greatest depth of a unit's routes, from its table, and that of all units. Assumes nothing.
use Rattle.std.proofs.Common.{◌≡◌, ℕ, ◌+◌, ◌-◌, ◌<◌, ◌≤◌, ◌⊎◌, List, [], length, get_or, ℤ, pos, ◌≤ℤ◌, Some, None, Option, sym, refl, ap, ◌∙◌, subst, inl, inr, arith, lit<}
use Rattle.std.proofs.lemmas.Int.{ints}
use Rattle.rules.specs.declared.unit.UnitId.{UnitId}
use Rattle.rules.specs.declared.unit.UnitId.TheVariants.{Module, Mechanism}
use Rattle.rules.specs.Program.{Program, Real, input_module, first}
use Rattle.rules.specs.Form.{Shaped}
use Rattle.rules.specs.Route.{at_entry, depth}
use Rattle.rules.specs.Verdict.{DepthOf}
use Rattle.theory.proofs.Text.{named}
use Rattle.walk.proofs.Sound.{Sound, place_low, place_high}
use Rattle.walk.proofs.Walking.{some_same}
use Rattle.measures.specs.Meaning.{Surveyed}
use Rattle.certificate.specs.Deepest.{Highest, Within, Deepened, StackOf}

-- n is a number of cells, or the highest depth at a place of a table
abbrev OneOf : List (Option (ℕ × (ℤ × ℤ))) → ℕ → ℕ → Type 0
OneOf table before n = (n ≡ before) ⊎ ((k : ℕ) × (v : ℕ × (ℤ × ℤ)) × (get_or table k None ≡ Some v) × (v.1.1 ≡ pos n))

-- the depths of a unit's routes are in its table
pub unit_deepened : (p : Program) (u : UnitId) → Real p u → Sound p u → (bounds : List ℕ) (table : List (Option (ℕ × (ℤ × ℤ)))) (before n : ℕ) → Surveyed p u bounds table → Highest table (length table) before n → Deepened p u before n
unit_deepened p u real sound bounds table before n s h = record {
  no_less = h.no_less;
  within = λ l path a. (let own = sound.stays a in let e = s.entry l own in let low = place_low sound l own in let high = place_high sound l own in let long = s.long in let top : e.0.1.1 ≤ℤ pos n = h.none_above (l - first p u) e.0 (omega arith) e.1 in let here : depth p path ≤ℤ e.0.1.1 = e.3.none_above path a in omega (arith, ints));
  attained = λ d. attained d h.one_of;
}
  where
    attained : DepthOf p (pos before) → OneOf table before n → DepthOf p (pos n)
    attained d (inl e) = subst (λ (z : ℕ). DepthOf p (pos z)) (sym e) d
    attained d (inr (k, v, read, top)) =
        let own = s.nowhere_else k v read in
        let e = s.entry (first p u + k) own in
        let place : first p u + k - first p u ≡ k = omega arith in
        let same : e.0 ≡ v = some_same e.1 (ap (λ (z : ℕ). get_or table z None) place ∙ read) in
        let a = e.3.high_attained in
        (u, first p u + k, a.0, real, a.1, sym (a.2 ∙ ap (λ (z : ℕ × (ℤ × ℤ)). z.1.1) same ∙ top))

-- a route that has not begun has no cell stacked
pub depth_none : (p : Program) → Shaped p → DepthOf p (pos 0)
depth_none p sh = (Module input_module, first p (Module input_module), [], named p sh input_module (lit< tt), at_entry (inl refl), refl)

pub within_more : {p : Program} {n m : ℕ} {u : UnitId} → n ≤ m → Within p n u → Within p m u
within_more {p} {n} {m} h w l path a = let q : depth p path ≤ℤ pos n = w l path a in omega (arith, ints)

pub all_units : (p : Program) (n : ℕ) → ((m : ℕ) → m < length p.lengths → Within p n (Module m)) → ((k : ℕ) → k < length p.activation → Within p n (Mechanism k)) → DepthOf p (pos n) → StackOf p n
all_units p n modules mechanisms d = record { none_above = within; attained = d }
  where
    within : (z : ℤ) → DepthOf p z → z ≤ℤ pos n
    within z (Module m, l, path, real, a, e) = rw e (modules m real l path a)
    within z (Mechanism k, l, path, real, a, e) = rw e (mechanisms k real l path a)
