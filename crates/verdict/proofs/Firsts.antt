-- The first bad place of several units. Assumes nothing.
use Rattle.std.proofs.Common.{◌≡◌, ℕ, ◌+◌, ◌-◌, ◌<◌, ◌≤◌, min, Bool, true, false, cond, Decides, ◌⊎◌, length, Some, None, Option, refl, sym, ap, ◌∙◌, subst, inl, inr, arith}
use Rattle.std.proofs.lemmas.Bool.{cases_lt, cases_order, both_ways, lt-ltb, le-ltb}
use Rattle.std.specs.Bool.{then_some}
use Rattle.rules.specs.declared.unit.UnitId.{UnitId}
use Rattle.rules.specs.declared.unit.UnitId.TheVariants.{Module, Mechanism}
use Rattle.rules.specs.Program.{Program, Real}
use Rattle.rules.specs.Verdict.{IsBadDepth, two_depths, off}
use Rattle.text.specs.Finds.{Finds}
use Rattle.verdict.specs.Depths.{IsBadIn, differ, misfit}
use Rattle.verdict.specs.Units.{nth_unit, earliest, IsBadAmong}

-- the first place of two kinds is the earlier of their first places
finds_either : {A B C : ℕ → Type 0} → ((l : ℕ) → A l → C l) → ((l : ℕ) → B l → C l) → ((l : ℕ) → C l → A l ⊎ B l) → (a b : Option ℕ) → Finds A a → Finds B b → Finds C (earliest a b)
finds_either f g h None None x y = λ l c. elim (h l c) [ inl p ↦ x l p | inr q ↦ y l q ]
finds_either f g h None (Some b) x y = (g b y.0, λ k e c. elim (h k c) [ inl p ↦ x k p | inr q ↦ y.1 k e q ])
finds_either f g h (Some a) None x y = (f a x.0, λ k e c. elim (h k c) [ inl p ↦ x.1 k e p | inr q ↦ y k q ])
finds_either {A} {B} {C} f g h (Some a) (Some b) x y = (here (cases_lt a b), λ k e c. elim (h k c) [ inl p ↦ x.1 k (omega arith) p | inr q ↦ y.1 k (omega arith) q ])
  where
    here : (a < b) ⊎ (b ≤ a) → C (min a b)
    here (inl k) = let e : a ≡ min a b = omega arith in subst C e (f a x.0)
    here (inr k) = let e : b ≡ min a b = omega arith in subst C e (g b y.0)

-- the last place where P may hold, where it holds at none before
pub finds_last : {P : ℕ → Type 0} (b : ℕ) (last : Bool) → ((k : ℕ) → k < b → P k → ⊥) → Decides last (P b) → ((k : ℕ) → P k → k ≤ b) → Finds P (then_some last b)
finds_last b true f d within = (d.0 refl, f)
finds_last {P} b false f d within =
    λ k x. elim (cases_lt k b) [ inl h ↦ f k h x | inr h ↦ both_ways false refl (d.1 (let g = within k x in let e : k ≡ b = omega arith in subst P e x)) ]

-- a kind that holds of the same places has the same first place
finds_same : {A B : ℕ → Type 0} → ((l : ℕ) → A l → B l) → ((l : ℕ) → B l → A l) → (o : Option ℕ) → Finds A o → Finds B o
finds_same f g None x = λ l b. x l (g l b)
finds_same f g (Some a) x = (f a x.0, λ k e b. x.1 k e (g k b))

module _ (p : Program) where
  at_nth : (n l : ℕ) (a : IsBadAmong p (n + 1) l) → IsBadAmong p n l ⊎ (Real p (nth_unit n) × IsBadIn p (nth_unit n) l)
  at_nth n l a = elim (cases_order a.nth n) [
    | inl e ↦ inr (subst (λ (i : ℕ). Real p (nth_unit i)) e a.real, subst (λ (i : ℕ). IsBadIn p (nth_unit i) l) e a.bad)
    | inr (inl h) ↦ inl (record { nth = a.nth; before = h; real = a.real; bad = a.bad })
    | inr (inr h) ↦ absurd (let b = a.before in omega arith)
  ]

  wider : (n l : ℕ) → IsBadAmong p n l → IsBadAmong p (n + 1) l
  wider n l a = record { nth = a.nth; before = (let b = a.before in omega arith); real = a.real; bad = a.bad }

  pub with_unit : (n : ℕ) (u : UnitId) → u ≡ nth_unit n → Real p u → (a b : Option ℕ) → Finds (IsBadAmong p n) a → Finds (IsBadIn p u) b → Finds (IsBadAmong p (n + 1)) (earliest a b)
  with_unit n u e r a b x y =
      finds_either (wider n) (λ l c. record { nth = n; before = omega arith; real = subst (Real p) e r; bad = subst (λ (v : UnitId). IsBadIn p v l) e c })
      (λ l c. elim (at_nth n l c) [ inl w ↦ inl w | inr w ↦ inr (subst (λ (v : UnitId). IsBadIn p v l) (sym e) w.1) ]) a b x y

  pub without_unit : (n : ℕ) (u : UnitId) → u ≡ nth_unit n → (Real p u → ⊥) → (a : Option ℕ) → Finds (IsBadAmong p n) a → Finds (IsBadAmong p (n + 1)) a
  without_unit n u e absent a x = finds_same (wider n) (λ l c. elim (at_nth n l c) [ inl w ↦ w | inr w ↦ absurd (absent (subst (Real p) (sym e) w.0)) ]) a x

  -- every unit has its number in the row
  nth_module : (m : ℕ) → m < 7 → nth_unit m ≡ Module m
  nth_module m h = ap (λ (b : Bool). cond b (Module m) (Mechanism (m - 7))) (lt-ltb m 7 h)

  nth_mechanism : (k : ℕ) → nth_unit (k + 7) ≡ Mechanism k
  nth_mechanism k = elim (cases_lt (k + 7) 7) [ inl h ↦ absurd (omega arith) | inr h ↦ ap (λ (b : Bool). cond b (Module (k + 7)) (Mechanism (k + 7 - 7))) (le-ltb (k + 7) 7 h) ∙ (let e : k + 7 - 7 ≡ k = omega arith in ap Mechanism e) ]

  module _ (seven : length p.lengths ≤ 7) where
    among : (u : UnitId) (l : ℕ) → Real p u → IsBadIn p u l → IsBadAmong p (length p.activation + 7) l
    among (Module m) l r b = let h : m < 7 = omega arith in record { nth = m; before = omega arith; real = subst (Real p) (sym (nth_module m h)) r; bad = subst (λ (v : UnitId). IsBadIn p v l) (sym (nth_module m h)) b }
    among (Mechanism k) l r b = record { nth = k + 7; before = omega arith; real = subst (Real p) (sym (nth_mechanism k)) r; bad = subst (λ (v : UnitId). IsBadIn p v l) (sym (nth_mechanism k)) b }

    to_depth : (u : UnitId) (l : ℕ) → Real p u → IsBadIn p u l → IsBadDepth p l
    to_depth u l r (differ x y n) = two_depths r x y n
    to_depth u l r (misfit x o) = off r x o

    from_depth : (l : ℕ) → IsBadDepth p l → IsBadAmong p (length p.activation + 7) l
    from_depth l (two_depths {u = u} r x y n) = among u l r (differ x y n)
    from_depth l (off {u = u} r x o) = among u l r (misfit x o)

    pub all_units : (o : Option ℕ) → Finds (IsBadAmong p (length p.activation + 7)) o → Finds (IsBadDepth p) o
    all_units o x = finds_same (λ l a. to_depth (nth_unit a.nth) l a.real a.bad) from_depth o x
