-- A formed program's text, rule by rule, as facts and not as the absence of breaches. Assumes nothing.
use Rattle.std.proofs.Common.{◌≡◌, ℕ, ◌+◌, ◌*◌, ◌<◌, ◌≤◌, Bool, true, false, ◌⊎◌, length, Some, None, Option, sym, refl, ap, inl, inr, arith, lit≤}
use Rattle.std.proofs.lemmas.Bool.{cases_eq, cases_lt}
use Rattle.rules.specs.declared.line.Line.{Line}
use Rattle.rules.specs.declared.op.Op.{Op}
use Rattle.rules.specs.declared.op.Op.TheVariants.{Ldr, Combine, CombineCell, Ca, Wr, Fl, Fl1, Jl, Ex, ExIf, Lod, Sto, Ad, Ge, Abs, MechBegin, MechEnd, MechInit}
use Rattle.rules.specs.Op.{bytes_of, is_begin, is_end, is_jump, is_exit}
use Rattle.rules.specs.Program.{Program, line_at, op_at, main_module, module_end, module_of, open_at, unit_of, Own, end, sequential}
use Rattle.rules.specs.declared.unit.UnitId.{UnitId}
use Rattle.rules.specs.declared.unit.UnitId.TheVariants.{Module, Mechanism}
use Rattle.rules.specs.Form.{Reaches, Begun, IsBadMechanism, Lands}
use Rattle.rules.specs.Verdict.{by_unknown_line, by_bad_operand, by_bad_mechanism, by_bad_jump, by_bad_exit, Formed}

-- a fact that is decided, and that cannot fail, holds
pub sure : {P : Type 0} → P ⊎ (P → ⊥) → ((P → ⊥) → ⊥) → P
sure (inl x) h = x
sure (inr n) h = absurd (h n)

pub clash : {A : Type 0} (P : Type 0) (a : A) → Some a ≡ None → P
clash P a h = absurd (let z : ◌≡◌ {A = ℕ} 0 1 = cc in omega arith)

pub same_option : (a b : Option ℕ) → (a ≡ b) ⊎ (a ≡ b → ⊥)
same_option None None = inl refl
same_option None (Some y) = inr (λ h. clash ⊥ y (sym h))
same_option (Some x) None = inr (λ h. clash ⊥ x h)
same_option (Some x) (Some y) = elim (cases_eq x y) [ inl e ↦ inl (ap Some e) | inr n ↦ inr (λ h. n (cc h)) ]

pub same_part : (a b : UnitId) → (a ≡ b) ⊎ (a ≡ b → ⊥)
same_part (Module x) (Module y) = elim (cases_eq x y) [ inl e ↦ inl (ap Module e) | inr n ↦ inr (λ h. n (cc h)) ]
same_part (Module x) (Mechanism y) = inr (λ h. let z : ◌≡◌ {A = ℕ} 0 1 = cc h in omega arith)
same_part (Mechanism x) (Module y) = inr (λ h. let z : ◌≡◌ {A = ℕ} 0 1 = cc h in omega arith)
same_part (Mechanism x) (Mechanism y) = elim (cases_eq x y) [ inl e ↦ inl (ap Mechanism e) | inr n ↦ inr (λ h. n (cc h)) ]

below : (a b : ℕ) → (a < b) ⊎ (a < b → ⊥)
below a b = elim (cases_lt a b) [ inl h ↦ inl h | inr h ↦ inr (λ g. omega arith) ]

upto : (a b : ℕ) → (a ≤ b) ⊎ (a ≤ b → ⊥)
upto a b = elim (cases_lt b a) [ inl h ↦ inr (λ g. omega arith) | inr h ↦ inl h ]

both_of : {P Q : Type 0} → P ⊎ (P → ⊥) → Q ⊎ (Q → ⊥) → (P × Q) ⊎ (P × Q → ⊥)
both_of (inl x) (inl y) = inl (x, y)
both_of (inl x) (inr n) = inr (λ h. n h.1)
both_of (inr n) q = inr (λ h. n h.0)

one_of : {P Q : Type 0} → P ⊎ (P → ⊥) → Q ⊎ (Q → ⊥) → (P ⊎ Q) ⊎ (P ⊎ Q → ⊥)
one_of (inl x) q = inl (inl x)
one_of (inr n) (inl y) = inl (inr y)
one_of {P} {Q} (inr n) (inr k) = inr go
  where
    go : P ⊎ Q → ⊥
    go (inl x) = n x
    go (inr y) = k y

pub owned : (p : Program) (u : UnitId) (l : ℕ) → Own p u l ⊎ (Own p u l → ⊥)
owned p u l = elim (both_of (below l (length p.lines)) (same_part (unit_of p l) u)) [ inl h ↦ inl (record { within = h.0; part = h.1 }) | inr n ↦ inr (λ o. n (o.within, o.part)) ]

lands_or_not : (p : Program) (t : ℕ) (u : UnitId) → Lands p t u ⊎ (Lands p t u → ⊥)
lands_or_not p t (Module m) = one_of (owned p (Module m) t) (cases_eq t (end p (Module m)))
lands_or_not p t (Mechanism k) = owned p (Mechanism k) t

reached : (p : Program) (x : Line) (o : Option Op) → Reaches p x o ⊎ (Reaches p x o → ⊥)
reached p x None = inl tt
reached p x (Some (Ldr s b)) = below b (8 * length p.initial)
reached p x (Some (Combine f s b)) = below b (8 * length p.initial)
reached p x (Some (CombineCell f)) = cases_eq x.operand 0
reached p x (Some Ca) = cases_eq x.operand 0
reached p x (Some (Wr b)) = below b (8 * length p.initial)
reached p x (Some (Fl v b)) = below b (8 * length p.initial)
reached p x (Some (Fl1 v b)) = below b (8 * length p.initial)
reached p x (Some (Jl w t)) = inl tt
reached p x (Some Ex) = cases_eq x.operand 0
reached p x (Some (ExIf w)) = cases_eq x.operand 0
reached p x (Some (Lod w a)) = upto (a + (bytes_of w)) (length p.initial)
reached p x (Some (Sto w a)) = upto (a + (bytes_of w)) (length p.initial)
reached p x (Some (Ad w a)) = upto (a + (bytes_of w)) (length p.initial)
reached p x (Some (Ge w a)) = upto (a + (bytes_of w)) (length p.initial)
reached p x (Some (Abs w)) = cases_eq x.operand 0
reached p x (Some (MechBegin k)) = below k (length p.activation)
reached p x (Some (MechEnd k)) = below k (length p.activation)
reached p x (Some (MechInit k)) = below k (length p.activation)

-- the rules of the text as facts
pub record Orderly (p : Program) : Type 0 where
  pub known : (l : ℕ) → l < length p.lines → (o : Op) × (op_at p l ≡ Some o)
  pub reaches : (l : ℕ) → l < length p.lines → Reaches p (line_at p l) (op_at p l)
  pub begin_main : (l : ℕ) → l < length p.lines → is_begin (line_at p l) ≡ true → module_of p.lengths l ≡ main_module
  pub begin_shut : (l : ℕ) → l < length p.lines → is_begin (line_at p l) ≡ true → open_at p l ≡ None
  pub begin_once : (l j : ℕ) → l < length p.lines → is_begin (line_at p l) ≡ true → j < l → is_begin (line_at p j) ≡ true → ((line_at p j).operand ≡ (line_at p l).operand) → ⊥
  pub end_main : (l : ℕ) → l < length p.lines → is_end (line_at p l) ≡ true → module_of p.lengths l ≡ main_module
  pub end_open : (l : ℕ) → l < length p.lines → is_end (line_at p l) ≡ true → open_at p l ≡ Some (line_at p l).operand
  pub shut : open_at p (module_end p main_module) ≡ None
  pub all_begun : (k : ℕ) → k < length p.activation → ((j : ℕ) → Begun p k j → ⊥) → ⊥
  pub lands : (l : ℕ) → l < length p.lines → is_jump (line_at p l) ≡ true → (l < (line_at p l).operand) × Lands p (line_at p l).operand (unit_of p l)
  pub exit_sequential : (l : ℕ) → l < length p.lines → is_exit (line_at p l) ≡ true → sequential (unit_of p l) ≡ true

module _ (p : Program) (formed : Formed p) where
  paired : (l : ℕ) → IsBadMechanism p l → ⊥
  paired l h = formed.unbroken 8 l (lit≤ tt) (by_bad_mechanism refl h)

  known_op : (l : ℕ) → l < length p.lines → (o : Option Op) → op_at p l ≡ o → (q : Op) × (op_at p l ≡ Some q)
  known_op l h None e = absurd (formed.unbroken 6 l (lit≤ tt) (by_unknown_line refl (h, e)))
  known_op l h (Some q) e = (q, e)

  main_begin : (l : ℕ) → l < length p.lines → is_begin (line_at p l) ≡ true → module_of p.lengths l ≡ main_module
  main_begin l h b = sure (cases_eq (module_of p.lengths l) main_module) (λ n. paired l (inl (h, inl (b, inl n))))

  sequential_exit : (l : ℕ) → l < length p.lines → is_exit (line_at p l) ≡ true → (b : Bool) → sequential (unit_of p l) ≡ b → b ≡ true
  sequential_exit l h e true q = refl
  sequential_exit l h e false q = absurd (formed.unbroken 10 l (lit≤ tt) (by_bad_exit refl (h, e, q)))

  pub orderly : Orderly p
  orderly = record {
    known = λ l h. known_op l h (op_at p l) refl;
    reaches = λ l h. sure (reached p (line_at p l) (op_at p l)) (λ n. formed.unbroken 7 l (lit≤ tt) (by_bad_operand refl (h, n)));
    begin_main = main_begin;
    begin_shut = λ l h b. sure (same_option (open_at p l) None) (λ n. paired l (inl (h, inl (b, inr (inl n)))));
    begin_once = λ l j h b lt c e. paired l (inl (h, inl (b, inr (inr (j, lt, (let g : j < length p.lines = omega arith in (g, c, e)))))));
    end_main = λ l h e. sure (cases_eq (module_of p.lengths l) main_module) (λ n. paired l (inl (h, inr (e, inl n))));
    end_open = λ l h e. sure (same_option (open_at p l) (Some (line_at p l).operand)) (λ n. paired l (inl (h, inr (e, inr n))));
    shut = sure (same_option (open_at p (module_end p main_module)) None) (λ n. paired (module_end p main_module) (inr (refl, inl n)));
    all_begun = λ k h n. paired (module_end p main_module) (inr (refl, inr (k, h, n)));
    lands = λ l h j. sure (both_of (below l (line_at p l).operand) (lands_or_not p (line_at p l).operand (unit_of p l))) (λ n. formed.unbroken 9 l (lit≤ tt) (by_bad_jump refl (h, j, n)));
    exit_sequential = λ l h e. sequential_exit l h e (sequential (unit_of p l)) refl;
  }
