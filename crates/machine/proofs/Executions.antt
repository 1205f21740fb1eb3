-- A run of an accepted program at a line: a rule exists there, and what the line does is a step of the rules. Assumes nothing.
use Rattle.std.proofs.Common.{◌≡◌, ℕ, ◌+◌, ◌<◌, ◌≤◌, Bool, true, false, cond, eqb, ◌⊎◌, List, length, get_or, Some, None, Option, refl, ap, ◌∙◌, subst, inl, inr, arith}
use Rattle.std.proofs.lemmas.Bool.{eqb-true}
use Rattle.rules.specs.declared.line.Line.{Line}
use Rattle.rules.specs.declared.unit.UnitId.{UnitId}
use Rattle.rules.specs.declared.unit.UnitId.TheVariants.{Module}
use Rattle.rules.specs.declared.op.Op.{Op}
use Rattle.rules.specs.declared.op.Logic.TheVariants.{And, Or, Xor}
use Rattle.rules.specs.declared.op.Op.TheVariants.{Ldr, Combine, CombineCell, Ca, Wr, Fl, Fl1, Jl, Ex, ExIf, Lod, Sto, Ad, Ge, Abs, MechBegin, MechEnd, MechInit}
use Rattle.rules.specs.Op.{decode, is_begin}
use Rattle.rules.specs.Number.{bit}
use Rattle.rules.specs.Program.{Program, line_at, op_at, flag_at, after, Own}
use Rattle.rules.specs.Form.{Reaches}
use Rattle.rules.specs.Verdict.{Accepted}
use Rattle.rules.specs.Effect.{Registers, Turn, enters, skips, follows, goes, stops, waits, resumes, resets, Done, bit_in, keeping}
use Rattle.rules.specs.Run.{Memory, with_bytes, at, over, Config, enter, turned, effected, carried, Step, step, Runs}
use Rattle.theory.specs.Decoded.{Says}
use Rattle.theory.specs.Standing.{Fitting}
use Rattle.theory.proofs.Decode.{decode_says}
use Rattle.theory.proofs.Text.{named}
use Rattle.theory.proofs.Orderly.{Orderly, orderly}
use Rattle.theory.proofs.Units.{after_plain}
use Rattle.theory.proofs.Effects.{Turns, did, from_provided}
use Rattle.theory.proofs.Stands.{Stands, runs_stand, goes_on}
use Rattle.theory.proofs.Ruled.{formed, balanced}
use Rattle.theory.proofs.Ends.{bound}
use Rattle.lines.specs.declared.turn.Turn as machine
use Rattle.lines.specs.declared.turn.Turn.TheVariants.{Follows, Goes, Stops, Waits, Resumes, Enters, Skips, Resets}
use Rattle.lines.specs.Views.{turn_of, line_effect, HasRule}
use Rattle.machine.specs.Views.{Serves}
use Rattle.machine.specs.Standing.{standing_at}

-- the effect of a line by the program and by its parts
effected_is : (p : Program) (l : ℕ) (r : Registers) (m : Memory) (o : Option Op) → effected p l r m o ≡ line_effect (flag_at p l) p.activation o r m.bytes
effected_is p l r m None = refl
effected_is p l r m (Some o) = refl

-- MECH_BEGIN LEADS INTO A MECHANISM OR PAST IT

abbrev Inward : Turn → Type 0
Inward follows = ⊥
Inward (goes t) = ⊥
Inward stops = ⊥
Inward waits = ⊥
Inward resumes = ⊥
Inward (enters k) = Unit {0}
Inward (skips k) = Unit {0}
Inward (resets k) = ⊥

inward_cond : (b : Bool) (k : ℕ) → Inward (cond b (enters k) (skips k))
inward_cond true k = tt
inward_cond false k = tt

module _ (f : Bool) (activation : List ℕ) (r : Registers) (bytes : List ℕ) where
  begin_inward : (x : Line) (d : Done) → is_begin x ≡ true → line_effect f activation (decode x) r bytes ≡ Some d → Inward d.turn
  begin_inward x d b e =
      go (eqb x.mode 0)
      (subst (λ (n : ℕ). line_effect f activation (decode (record { code = n; mode = x.mode; operand = x.operand })) r bytes ≡ Some d) (eqb-true x.code 22 b) e)
    where
      go : (z : Bool) → line_effect f activation (cond z (Some (MechBegin x.operand)) None) r bytes ≡ Some d → Inward d.turn
      go true h = from_provided (λ (n : Done). Inward n.turn) (bit_in bytes (get_or activation x.operand 0)) _ d h (inward_cond (bit bytes (get_or activation x.operand 0)) x.operand)
      go false h = cc

-- A RULE AT EACH LINE

carried_ruled : (p : Program) (u : UnitId) (l : ℕ) (m : Memory) (d : Config) (x : Option Done) → carried p u l m x ≡ Some d → HasRule x
carried_ruled p u l m d None e = cc
carried_ruled p u l m d (Some n) e = tt

step_ruled : (p : Program) (u : UnitId) (l : ℕ) (r : Registers) (m : Memory) (d : Config) → Step p (standing_at u l r m) d → HasRule (line_effect (flag_at p l) p.activation (decode (line_at p l)) r m.bytes)
step_ruled p u l r m d (step {u = v} {l = k} q o e) =
    let same : k ≡ l = cc q in
    subst (λ (n : ℕ). HasRule (line_effect (flag_at p n) p.activation (decode (line_at p n)) r m.bytes)) same
    (subst HasRule (effected_is p k r m (op_at p k)) (carried_ruled p v k m d (effected p k r m (op_at p k)) e))

ord : (p : Program) → Accepted p → Orderly p
ord p acc = orderly p (formed p acc)

module _ (p : Program) (acc : Accepted p) (t : ℕ) (small : t < 7) (m₀ : Memory) (fits : Fitting p m₀) where
  pub stands : (n : ℕ) (c : Config) → Runs p (enter p (Module t) m₀) n c → Stands p t n c
  stands n c runs = runs_stand p acc.shaped (ord p acc) t m₀ (named p acc.shaped t small) fits n c runs

  pub steps_bounded : (n : ℕ) (c : Config) → Runs p (enter p (Module t) m₀) n c → n ≤ length p.lines
  steps_bounded n c runs = bound p acc.shaped (ord p acc) t n c.place c.registers.cells (named p acc.shaped t small) (stands n c runs).routed

  -- the line is one of its unit, and a rule exists
  pub ready_at : (n : ℕ) (u : UnitId) (l : ℕ) (r : Registers) (m : Memory) → Runs p (enter p (Module t) m₀) n (standing_at u l r m) → Own p u l × HasRule (line_effect (flag_at p l) p.activation (decode (line_at p l)) r m.bytes)
  ready_at n u l r m runs =
      let s = stands n (standing_at u l r m) runs in
      (s.routed.2.own, go (goes_on p acc.shaped (ord p acc) t n (standing_at u l r m) (balanced p acc) s))
    where
      go : ((b : Bool) × (at u l ≡ over b)) ⊎ ((d : Config) × Step p (standing_at u l r m) d) → HasRule (line_effect (flag_at p l) p.activation (decode (line_at p l)) r m.bytes)
      go (inl (b, q)) = cc
      go (inr (d, s)) = step_ruled p u l r m d s

-- A LINE EXECUTED

module _ (p : Program) (acc : Accepted p) where
  -- the operation of a line
  operation : (l : ℕ) → l < length p.lines → (o : Op) × (op_at p l ≡ Some o) × Says (line_at p l) o × Reaches p (line_at p l) (Some o)
  operation l h =
      let q = (ord p acc).known l h in
      (q.0, q.1, decode_says (line_at p l) q.0 q.1, subst (λ (o : Option Op). Reaches p (line_at p l) o) q.1 ((ord p acc).reaches l h))

  -- from code 22 on, the operand is a mechanism of the program
  pub mechanism_inside : (l : ℕ) → l < length p.lines → 22 ≤ (line_at p l).code → (line_at p l).operand < length p.activation
  mechanism_inside l h high = let q = operation l h in go q.0 q.2 q.3
    where
      go : (o : Op) → Says (line_at p l) o → Reaches p (line_at p l) (Some o) → (line_at p l).operand < length p.activation
      go (Ldr s a) w b = omega arith
      go (Combine And s a) w b = omega arith
      go (Combine Or s a) w b = omega arith
      go (Combine Xor s a) w b = omega arith
      go (CombineCell And) w b = omega arith
      go (CombineCell Or) w b = omega arith
      go (CombineCell Xor) w b = omega arith
      go Ca w b = omega arith
      go (Wr a) w b = omega arith
      go (Fl v a) w b = omega arith
      go (Fl1 v a) w b = omega arith
      go (Jl false a) w b = omega arith
      go (Jl true a) w b = omega arith
      go Ex w b = omega arith
      go (ExIf false) w b = omega arith
      go (ExIf true) w b = omega arith
      go (Lod n a) w b = omega arith
      go (Sto n a) w b = omega arith
      go (Ad n a) w b = omega arith
      go (Abs n) w b = omega arith
      go (Ge n a) w b = omega arith
      go (MechBegin k) w b = omega arith
      go (MechEnd k) w b = omega arith
      go (MechInit k) w b = omega arith

  -- the turn of a line serves
  pub served : (l : ℕ) → l < length p.lines → (r r' : Registers) (bytes bytes' : List ℕ) (w : machine.Turn) → line_effect (flag_at p l) p.activation (decode (line_at p l)) r bytes ≡ Some (keeping r' bytes' (turn_of w)) → Serves p l w
  served l h r r' bytes bytes' w e = go w (begun w e) (led w e)
    where
      next : (b : Bool) → is_begin (line_at p l) ≡ b → (b ≡ true → ⊥) → after p l ≡ l + 1
      next true e n = absurd (n refl)
      next false e n = after_plain p acc.shaped (ord p acc) l e

      begun : (w : machine.Turn) → line_effect (flag_at p l) p.activation (decode (line_at p l)) r bytes ≡ Some (keeping r' bytes' (turn_of w)) → is_begin (line_at p l) ≡ true → Inward (turn_of w)
      begun w e b = begin_inward (flag_at p l) p.activation r bytes (line_at p l) (keeping r' bytes' (turn_of w)) b e

      led : (w : machine.Turn) → line_effect (flag_at p l) p.activation (decode (line_at p l)) r bytes ≡ Some (keeping r' bytes' (turn_of w)) → (o : Op) × Reaches p (line_at p l) (Some o) × Turns o (turn_of w)
      led w e =
          let q = operation l h in
          (q.0, q.3, (did (flag_at p l) p.activation q.0 r bytes (keeping r' bytes' (turn_of w)) (subst (λ (o : Option Op). line_effect (flag_at p l) p.activation o r bytes ≡ Some (keeping r' bytes' (turn_of w))) q.1 e)).turns)

      named_by : (o q : Op) → o ≡ q → Reaches p (line_at p l) (Some o) → Reaches p (line_at p l) (Some q)
      named_by o q e b = subst (λ (x : Op). Reaches p (line_at p l) (Some x)) e b

      go : (w : machine.Turn) → (is_begin (line_at p l) ≡ true → Inward (turn_of w)) → (o : Op) × Reaches p (line_at p l) (Some o) × Turns o (turn_of w) → Serves p l w
      go Follows b q = next (is_begin (line_at p l)) refl b
      go (Goes t) b q = tt
      go Stops b q = next (is_begin (line_at p l)) refl b
      go Waits b q = tt
      go Resumes b q = next (is_begin (line_at p l)) refl b
      go (Enters k) b q = named_by q.0 (MechBegin k) q.2 q.1
      go (Skips k) b q = named_by q.0 (MechBegin k) q.2 q.1
      go (Resets k) b q = (named_by q.0 (MechInit k) q.2 q.1, next (is_begin (line_at p l)) refl b)

-- what a line has done is a step of the rules
pub stepped : (p : Program) (u : UnitId) (l : ℕ) (r r' : Registers) (m : Memory) (bytes' : List ℕ) (w : Turn) → Own p u l → line_effect (flag_at p l) p.activation (decode (line_at p l)) r m.bytes ≡ Some (keeping r' bytes' w) → Step p (standing_at u l r m) (turned p u l r' (with_bytes m bytes') w)
stepped p u l r r' m bytes' w own e = step refl own (ap (carried p u l m) (effected_is p l r m (op_at p l) ∙ e))
