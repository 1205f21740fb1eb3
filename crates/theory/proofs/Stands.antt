-- What every run of a formed program keeps: it is on a route, its memory fits, and at most eight cells are stacked. Assumes nothing.
use Rattle.std.proofs.Common.{◌≡◌, ℕ, suc, ◌+◌, ◌<◌, ◌≤◌, Bool, true, false, cond, ◌&&◌, ◌||◌, eqb, ◌⊎◌, List, [], ◌∷◌, length, ℤ, pos, negsuc, ◌+ℤ◌, Some, None, Option, sym, refl, ap, ◌∙◌, subst, inl, inr, add-zero, arith, lit<}
use Rattle.std.proofs.lemmas.Bool.{eqb-true, eqb-false, cases_eq, and_right, true≢false}
use Rattle.rules.specs.declared.line.Line.{Line}
use Rattle.rules.specs.declared.op.Op.{Op}
use Rattle.rules.specs.declared.op.Op.TheVariants.{Jl, Ex, ExIf, MechBegin, MechInit}
use Rattle.rules.specs.Op.{is_begin, is_jump, is_exit, is_ex}
use Rattle.rules.specs.Program.{Program, line_at, op_at, main_module, Own, end_line, first, end, after, Real, sequential, flag_at, pushes, pops}
use Rattle.rules.specs.declared.unit.UnitId.{UnitId}
use Rattle.rules.specs.declared.unit.UnitId.TheVariants.{Module, Mechanism}
use Rattle.rules.specs.Form.{Shaped, Reaches}
use Rattle.rules.specs.Route.{Way, Arrives, at_entry, passed, Route, to_end, stopped, Steps, none, line, entered, Takes, change, depth}
use Rattle.rules.specs.Verdict.{off}
use Rattle.rules.specs.Effect.{Registers, cleared, Turn, follows, goes, stops, waits, resumes, enters, skips, resets, Done, effect}
use Rattle.rules.specs.Run.{Memory, with_bytes, point, with_point, Place, at, over, Config, finished, arrive_module, main_after, arrive, leave, enter, turned, effected, carried, Step, step, Runs, here, on}
use Rattle.theory.specs.Decoded.{arg_of, pop_of, cell_code, Says}
use Rattle.theory.specs.Standing.{Fitting, Balanced, Outer, Tracked, OnRoute, Routed}
use Rattle.theory.proofs.Decode.{op_code, decode_says}
use Rattle.theory.proofs.Text.{named}
use Rattle.theory.proofs.Orderly.{Orderly, sure, clash}
use Rattle.theory.proofs.Spans.{Span, span}
use Rattle.theory.proofs.Units.{Stays, own_module, own_mechanism, after_begin, past_mechanism, after_stays, jump_stays, entry_stays}
use Rattle.theory.proofs.Effects.{push_of, delta, Turns, Did, did, works}
use Rattle.theory.proofs.Points.{bytes_kept, point_kept}
use Rattle.theory.proofs.Points as Points

pub record Stands (p : Program) (t k : ℕ) (c : Config) : Type 0 where
  pub fitting : Fitting p c.memory
  pub at_most : length c.registers.cells ≤ 8
  pub routed : Routed p t k c.place c.registers.cells

-- what a route brings to a place of unit u
record Brings (p : Program) (t k : ℕ) (u : UnitId) (path : List ℕ) (l : ℕ) (r : Registers) (m : Memory) : Type 0 where
  real : Real p u
  tracked : Tracked p t u path k
  arrives : Arrives p u path l
  stays : Stays p u l
  held : Balanced p → depth p path ≡ pos (length r.cells)
  at_most : length r.cells ≤ 8
  fitting : Fitting p m

pub same_depth : (a b : ℤ) → (a ≡ b) ⊎ (a ≡ b → ⊥)
same_depth (pos x) (pos y) = elim (cases_eq x y) [ inl e ↦ inl (ap pos e) | inr n ↦ inr (λ h. n (cc h)) ]
same_depth (pos x) (negsuc y) = inr (λ h. let z : ◌≡◌ {A = ℕ} 0 1 = cc h in omega arith)
same_depth (negsuc x) (pos y) = inr (λ h. let z : ◌≡◌ {A = ℕ} 0 1 = cc h in omega arith)
same_depth (negsuc x) (negsuc y) = elim (cases_eq x y) [ inl e ↦ inl (ap negsuc e) | inr n ↦ inr (λ h. n (cc h)) ]

plus_zero : (d : ℤ) → d ≡ pos 0 → d +ℤ pos 0 ≡ pos 0
plus_zero d e = ap (λ (x : ℤ). x +ℤ pos 0) e

-- a line's change of depth, by its operation
change_is : (p : Program) (l : ℕ) (o : Op) → Says (line_at p l) o → change p l ≡ delta (push_of (flag_at p l) o) (pop_of o)
change_is p l o s =
    let a : pushes p l ≡ push_of (flag_at p l) o = ap (λ (c : ℕ). eqb c 1 && flag_at p l) s.code_is in
    let b : pops p l ≡ pop_of o = s.pop_is in
    ap (λ (x : Bool). cond x (pos 1) (cond (pops p l) (negsuc 0) (pos 0))) a ∙ ap (λ (x : Bool). cond (push_of (flag_at p l) o) (pos 1) (cond x (negsuc 0) (pos 0))) b

at_here : {p : Program} {t k : ℕ} {u : UnitId} {path : List ℕ} {l : ℕ} {r : Registers} {m : Memory} → Brings p t k u path l r m → Own p u l → Stands p t k (record { place = at u l; registers = r; memory = m })
at_here {path = path} b o = record { fitting = b.fitting; at_most = b.at_most; routed = (path, b.tracked, record { real = b.real; own = o; arrives = b.arrives; held = b.held }) }

own_now : {p : Program} {u : UnitId} {l : ℕ} → Stays p u l → eqb l (end p u) ≡ false → Own p u l
own_now (inl o) e = o
own_now {p} {u} {l} (inr q) e = absurd (eqb-false l (end p u) e q)

arrive_module_stands : (p : Program) (t k n : ℕ) (path : List ℕ) (l : ℕ) (r : Registers) (m : Memory) → Brings p t k (Module n) path l r m → Stands p t k (arrive_module p n l r m)
arrive_module_stands p t k n path l r m b = go (eqb l (end p (Module n))) refl
  where
    go : (x : Bool) → eqb l (end p (Module n)) ≡ x → Stands p t k (cond x (finished true (with_point m (Module n) (first p (Module n)))) (record { place = at (Module n) l; registers = r; memory = m }))
    go true e =
        let q : l ≡ end p (Module n) = eqb-true l (end p (Module n)) e in
        record {
          fitting = point_kept p m b.fitting (Module n) (first p (Module n)) b.real (inl refl);
          at_most = omega arith;
          routed = (subst (λ (x : ℕ). Takes p (Module x) k) b.tracked.0 (path, to_end (subst (λ (x : ℕ). Arrives p (Module n) path x) q b.arrives), b.tracked.1), λ z. absurd (true≢false z), refl);
        }
    go false e = at_here b (own_now b.stays e)

code_by : {y : Line} {o : Op} → Says y o → (q : Op) → o ≡ q → y.code ≡ op_code q
code_by s q e = s.code_is ∙ ap op_code e

arg_by : {y : Line} {o : Op} → Says y o → (q : Op) → o ≡ q → y.operand ≡ arg_of q y.operand
arg_by {y} s q e = s.arg_is ∙ ap (λ (x : Op). arg_of x y.operand) e

jump_by : {y : Line} {o : Op} → Says y o → (w : Bool) (t : ℕ) → o ≡ Jl w t → is_jump y ≡ true
jump_by s false t e = ap (λ (c : ℕ). eqb c 9 || eqb c 10) (code_by s (Jl false t) e)
jump_by s true t e = ap (λ (c : ℕ). eqb c 9 || eqb c 10) (code_by s (Jl true t) e)

exit_by : {y : Line} {o : Op} → Says y o → o ≡ Ex → is_exit y ≡ true
exit_by s e = ap (λ (c : ℕ). eqb c 11 || (eqb c 12 || eqb c 13)) (code_by s Ex e)

exit_if_by : {y : Line} {o : Op} → Says y o → (w : Bool) → o ≡ ExIf w → is_exit y ≡ true
exit_if_by s false e = ap (λ (c : ℕ). eqb c 11 || (eqb c 12 || eqb c 13)) (code_by s (ExIf false) e)
exit_if_by s true e = ap (λ (c : ℕ). eqb c 11 || (eqb c 12 || eqb c 13)) (code_by s (ExIf true) e)

may_go_on : {y : Line} {o : Op} → Says y o → (w : Bool) → o ≡ ExIf w → is_ex y ≡ false
may_go_on s false e = ap (λ (c : ℕ). eqb c 11) (code_by s (ExIf false) e)
may_go_on s true e = ap (λ (c : ℕ). eqb c 11) (code_by s (ExIf true) e)

module _ (p : Program) (sec : Shaped p) (ord : Orderly p) where
  main_real : Real p (Module main_module)
  main_real = named p sec main_module (lit< tt)

  -- the lines of MAIN that begin a mechanism stack nothing, and find nothing stacked
  begin_code : (x : ℕ) → is_begin (line_at p x) ≡ true → (line_at p x).code ≡ 22
  begin_code x h = eqb-true (line_at p x).code 22 h

  begin_change : (x : ℕ) → is_begin (line_at p x) ≡ true → change p x ≡ pos 0
  begin_change x e =
      let y = line_at p x in
      ap (λ (c : ℕ). cond (eqb c 1 && flag_at p x) (pos 1) (cond (eqb y.mode 2 && cell_code c) (negsuc 0) (pos 0))) (begin_code x e)
      ∙ ap (λ (b : Bool). cond b (negsuc 0) (pos 0)) (and_right (eqb y.mode 2) false refl)

  outer_depth : {j n : ℕ} (o : Outer p j n) → Balanced p → depth p (o.begin_at ∷ o.path) ≡ pos 0
  outer_depth o bal =
      let z : depth p o.path ≡ pos 0 = sure (same_depth (depth p o.path) (pos 0)) (λ n. bal o.begin_at (off main_real o.arrives (inr (inr (inl (o.own, inr (inl o.begin_there), n)))))) in
      rw (begin_change o.begin_at o.begin_there) (plus_zero (depth p o.path) z)

  not_exit : (x : ℕ) → is_begin (line_at p x) ≡ true → is_ex (line_at p x) ≡ false
  not_exit x h = ap (λ (c : ℕ). eqb c 11) (begin_code x h)

  -- MAIN goes on after a mechanism
  main_after_stands : (t k j n : ℕ) (m : Memory) (o : Outer p j n) → t ≡ main_module → Span p j → Steps p (o.begin_at ∷ o.path) k → Fitting p m → Stands p t k (main_after p j m)
  main_after_stands t k j n m o q s st f =
      let past : after p o.begin_at ≡ end_line p j + 1 = after_begin p sec ord o.begin_at o.begin_there ∙ ap (λ (x : ℕ). end_line p x + 1) o.names in
      arrive_module_stands p t k main_module (o.begin_at ∷ o.path) (end_line p j + 1) cleared m
      (record { real = main_real; tracked = (sym q, st); arrives = passed o.arrives o.own (inl (not_exit o.begin_at o.begin_there, sym past)); stays = past_mechanism p sec ord j s; held = λ bal. outer_depth o bal; at_most = omega arith; fitting = f })

  -- the steps of MAIN's route with a mechanism's in it
  inner_steps : {j n : ℕ} (o : Outer p j n) (inner : List ℕ) (k : ℕ) → Route p (Mechanism j) inner → k ≡ n + 1 + length inner → Steps p (o.begin_at ∷ o.path) k
  inner_steps {j} {n} o inner k r e = let e₂ : suc (n + length inner) ≡ k = omega arith in subst (λ (x : ℕ). Steps p (o.begin_at ∷ o.path) x) e₂ (entered o.begin_there (subst (λ (x : ℕ). Route p (Mechanism x) inner) (sym o.names) r) o.steps)

  arrive_stands : (t k : ℕ) (u : UnitId) (path : List ℕ) (l : ℕ) (r : Registers) (m : Memory) → Brings p t k u path l r m → Stands p t k (arrive p u l r m)
  arrive_stands t k (Module n) path l r m b = arrive_module_stands p t k n path l r m b
  arrive_stands t k (Mechanism j) path l r m b = go (eqb l (end p (Mechanism j))) refl
    where
      go : (x : Bool) → eqb l (end p (Mechanism j)) ≡ x → Stands p t k (cond x (main_after p j (with_point m (Mechanism j) (first p (Mechanism j)))) (record { place = at (Mechanism j) l; registers = r; memory = m }))
      go true e =
          let q : l ≡ end p (Mechanism j) = eqb-true l (end p (Mechanism j)) e in
          let o = b.tracked.2 in
          main_after_stands t k j b.tracked.0 (with_point m (Mechanism j) (first p (Mechanism j))) o b.tracked.1 (span p sec ord j b.real)
          (inner_steps o path k (to_end (subst (λ (x : ℕ). Arrives p (Mechanism j) path x) q b.arrives)) b.tracked.3)
          (point_kept p m b.fitting (Mechanism j) (first p (Mechanism j)) b.real (inl refl))
      go false e = at_here b (own_now b.stays e)

  -- a pass is left at an EX-type line
  leave_stands : (t k : ℕ) (u : UnitId) (path : List ℕ) (l : ℕ) (m : Memory) → Real p u → Tracked p t u path k → Arrives p u path l → Own p u l → is_exit (line_at p l) ≡ true → Fitting p m → Stands p t (suc k) (leave p u m)
  leave_stands t k (Module n) path l m h tr a o e f =
      record { fitting = f; at_most = omega arith; routed = (subst (λ (x : ℕ). Takes p (Module x) (suc k)) tr.0 (l ∷ path, stopped a o e, line tr.1), λ _. subst (λ (x : ℕ). sequential (Module x) ≡ true) tr.0 (subst (λ (x : UnitId). sequential x ≡ true) o.part (ord.exit_sequential l o.within e)), refl) }
  leave_stands t k (Mechanism j) path l m h tr a o e f =
      main_after_stands t (suc k) j tr.0 m tr.2 tr.1 (span p sec ord j h) (inner_steps tr.2 (l ∷ path) (suc k) (stopped a o e) (let q = tr.3 in omega arith)) f

  tracked_on : (t k : ℕ) (u : UnitId) (path : List ℕ) (l : ℕ) → Tracked p t u path k → Tracked p t u (l ∷ path) (suc k)
  tracked_on t k (Module n) path l tr = (tr.0, line tr.1)
  tracked_on t k (Mechanism j) path l tr = (tr.0, tr.1, tr.2, (let q = tr.3 in omega arith))

  -- ONE STEP

  -- a line of unit u has been executed
  record Executed (t k : ℕ) (u : UnitId) (path : List ℕ) (l : ℕ) (o : Op) (r : Registers) (m : Memory) : Type 0 where
    real : Real p u
    own : Own p u l
    arrives : Arrives p u path l
    before : Tracked p t u path k
    says : Says (line_at p l) o
    reaches : Reaches p (line_at p l) (Some o)
    held : Balanced p → depth p (l ∷ path) ≡ pos (length r.cells)
    at_most : length r.cells ≤ 8
    fitting : Fitting p m

  moved : (t k : ℕ) (u : UnitId) (path : List ℕ) (l : ℕ) (o : Op) (r : Registers) (m m' : Memory) (j : ℕ) → Executed t k u path l o r m → Fitting p m' → Way p l j → Stays p u j → Stands p t (suc k) (arrive p u j r m')
  moved t k u path l o r m m' j x f w s =
      arrive_stands t (suc k) u (l ∷ path) j r m'
      (record { real = x.real; tracked = tracked_on t k u path l x.before; arrives = passed x.arrives x.own w; stays = s; held = x.held; at_most = x.at_most; fitting = f })

  -- only MAIN begins mechanisms
  begins_in_main : (u : UnitId) (l : ℕ) → Own p u l → is_begin (line_at p l) ≡ true → u ≡ Module main_module
  begins_in_main (Module n) l o b = ap Module (sym (own_module p n l o).0 ∙ ord.begin_main l o.within b)
  begins_in_main (Mechanism k) l o b = clash (Mechanism k ≡ Module main_module) k (sym (own_mechanism p k l o).1 ∙ ord.begin_shut l o.within b)

  outer_of : (t k : ℕ) (u : UnitId) (path : List ℕ) (l j : ℕ) → u ≡ Module main_module → Own p u l → Arrives p u path l → Tracked p t u path k → is_begin (line_at p l) ≡ true → (line_at p l).operand ≡ j → (t ≡ main_module) × ((q : Outer p j k) × (Steps p (q.begin_at ∷ q.path) (suc k)))
  outer_of t k (Mechanism i) path l j e o a tr b n = absurd (let z : ◌≡◌ {A = ℕ} 0 1 = cc e in omega arith)
  outer_of t k (Module i) path l j e o a tr b n =
      let q : i ≡ main_module = cc e in
      (sym tr.0 ∙ q, (record { path = path; begin_at = l; arrives = subst (λ (x : ℕ). Arrives p (Module x) path l) q a; own = subst (λ (x : ℕ). Own p (Module x) l) q o; begin_there = b; names = n; steps = tr.1 }, line tr.1))

  pub enter_mechanism : (t k j n : ℕ) (m : Memory) → Real p (Mechanism j) → t ≡ main_module → Outer p j n → k ≡ suc n → Fitting p m → Stands p t k (enter p (Mechanism j) m)
  enter_mechanism t k j n m h q o e f =
      let en = Points.entered p m f (Mechanism j) h in
      arrive_stands t k (Mechanism j) [] (point p m (Mechanism j)) cleared m
      (record { real = h; tracked = (n, q, o, omega arith); arrives = at_entry en; stays = entry_stays p sec ord (Mechanism j) (point p m (Mechanism j)) h en; held = λ _. refl; at_most = omega arith; fitting = f })

  turned_stands : (t k : ℕ) (u : UnitId) (path : List ℕ) (l : ℕ) (o : Op) (r : Registers) (m : Memory) → Executed t k u path l o r m → (w : Turn) → Turns o w → Stands p t (suc k) (turned p u l r m w)
  turned_stands t k u path l o r m x follows h = moved t k u path l o r m m (after p l) x x.fitting (inl (ap (λ (c : ℕ). eqb c 11) x.says.code_is ∙ h, refl)) (after_stays p sec ord u l x.real x.own)
  turned_stands t k u path l o r m x (goes y) h =
      let j = jump_by x.says h.0 y h.1 in
      let q : (line_at p l).operand ≡ y = arg_by x.says (Jl h.0 y) h.1 in
      moved t k u path l o r m m y x x.fitting (inr (j, sym q)) (subst (λ (z : ℕ). Stays p u z) q (jump_stays p sec ord u l x.own j))
  turned_stands t k u path l o r m x stops h =
      let e = exit_by x.says h in
      leave_stands t k u path l (with_point m u (after p l)) x.real x.before x.arrives x.own e (point_kept p m x.fitting u (after p l) x.real (inr (l, x.own, e, refl)))
  turned_stands t k u path l o r m x waits h = leave_stands t k u path l m x.real x.before x.arrives x.own (exit_if_by x.says h.0 h.1) x.fitting
  turned_stands t k u path l o r m x resumes h =
      let e = exit_if_by x.says h.0 h.1 in
      moved t k u path l o r m (with_point m u (after p l)) (after p l) x (point_kept p m x.fitting u (after p l) x.real (inr (l, x.own, e, refl))) (inl (may_go_on x.says h.0 h.1, refl)) (after_stays p sec ord u l x.real x.own)
  turned_stands t k u path l o r m x (enters j) h =
      let b : is_begin (line_at p l) ≡ true = ap (λ (c : ℕ). eqb c 22) (code_by x.says (MechBegin j) h) in
      let g = outer_of t k u path l j (begins_in_main u l x.own b) x.own x.arrives x.before b (arg_by x.says (MechBegin j) h) in
      enter_mechanism t (suc k) j k m (subst (λ (z : Op). Reaches p (line_at p l) (Some z)) h x.reaches) g.0 g.1.0 refl x.fitting
  turned_stands t k u path l o r m x (skips j) h =
      let b : is_begin (line_at p l) ≡ true = ap (λ (c : ℕ). eqb c 22) (code_by x.says (MechBegin j) h) in
      let g = outer_of t k u path l j (begins_in_main u l x.own b) x.own x.arrives x.before b (arg_by x.says (MechBegin j) h) in
      main_after_stands t (suc k) j k m g.1.0 g.0 (span p sec ord j (subst (λ (z : Op). Reaches p (line_at p l) (Some z)) h x.reaches)) g.1.1 x.fitting
  turned_stands t k u path l o r m x (resets j) h =
      let e : j < length p.activation = subst (λ (z : Op). Reaches p (line_at p l) (Some z)) h x.reaches in
      moved t k u path l o r m (with_point m (Mechanism j) (first p (Mechanism j))) (after p l) x (point_kept p m x.fitting (Mechanism j) (first p (Mechanism j)) e (inl refl)) (inl (ap (λ (c : ℕ). eqb c 11) (code_by x.says (MechInit j) h), refl)) (after_stays p sec ord u l x.real x.own)

  pub step_stands : (t k : ℕ) (c d : Config) → Stands p t k c → Step p c d → Stands p t (suc k) d
  step_stands t k c d s (step {u = u} {l = l} pl own e) =
      let q = ord.known l own.within in
      let ro : Routed p t k (at u l) c.registers.cells = subst (λ (x : Place). Routed p t k x c.registers.cells) pl s.routed in
      go q.0 q.1 ro (effect (flag_at p l) p.activation q.0 c.registers c.memory.bytes) refl (subst (λ (x : Option Op). carried p u l c.memory (effected p l c.registers c.memory x) ≡ Some d) q.1 e)
    where
      go : (o : Op) → op_at p l ≡ Some o → Routed p t k (at u l) c.registers.cells → (x : Option Done) → effect (flag_at p l) p.activation o c.registers c.memory.bytes ≡ x → carried p u l c.memory x ≡ Some d → Stands p t (suc k) d
      go o q ro None f e = clash (Stands p t (suc k) d) d (sym e)
      go o q ro (Some n) f e =
          let g : Did (flag_at p l) o c.registers c.memory.bytes n = did (flag_at p l) p.activation o c.registers c.memory.bytes n f in
          let w = ro.2 in
          let says = decode_says (line_at p l) o q in
          let held : Balanced p → depth p (l ∷ ro.0) ≡ pos (length n.registers.cells) = λ bal. ap (λ (x : ℤ). x +ℤ change p l) (w.held bal) ∙ ap (λ (x : ℤ). pos (length c.registers.cells) +ℤ x) (change_is p l o says) ∙ sym g.balance in
          let x : Executed t k u ro.0 l o n.registers (with_bytes c.memory n.bytes) = record { real = w.real; own = w.own; arrives = w.arrives; before = ro.1; says = says; reaches = subst (λ (z : Option Op). Reaches p (line_at p l) z) q (ord.reaches l own.within); held = held; at_most = g.at_most s.at_most; fitting = bytes_kept p c.memory s.fitting n.bytes g.same_length } in
          let same : turned p u l n.registers (with_bytes c.memory n.bytes) n.turn ≡ d = cc e in
          subst (λ (z : Config). Stands p t (suc k) z) same (turned_stands t k u ro.0 l o n.registers (with_bytes c.memory n.bytes) x n.turn g.turns)

  starts_standing : (t : ℕ) (m : Memory) → t < length p.lengths → Fitting p m → Stands p t 0 (enter p (Module t) m)
  starts_standing t m h f =
      let en = Points.entered p m f (Module t) h in
      arrive_module_stands p t 0 t [] (point p m (Module t)) cleared m
      (record { real = h; tracked = (refl, none); arrives = at_entry en; stays = entry_stays p sec ord (Module t) (point p m (Module t)) h en; held = λ _. refl; at_most = omega arith; fitting = f })

  pub runs_stand : (t : ℕ) (m : Memory) → t < length p.lengths → Fitting p m → (k : ℕ) (c : Config) → Runs p (enter p (Module t) m) k c → Stands p t k c
  runs_stand t m h f k c here = starts_standing t m h f
  runs_stand t m h f k c (on {n = n} {d = d} r s) = step_stands t n d c (runs_stand t m h f n d r) s

  pub runs_on : (t k₀ : ℕ) (c₀ : Config) → Stands p t k₀ c₀ → (k : ℕ) (c : Config) → Runs p c₀ k c → Stands p t (k₀ + k) c
  runs_on t k₀ c₀ s k c here = subst (λ (x : ℕ). Stands p t x c₀) (sym (add-zero k₀)) s
  runs_on t k₀ c₀ s k c (on {n = n} {d = d} r w) = (let e : suc (k₀ + n) ≡ k₀ + suc n = omega arith in subst (λ (x : ℕ). Stands p t x c) e) (step_stands t (k₀ + n) d c (runs_on t k₀ c₀ s n d r) w)

  -- WHERE A STEP EXISTS

  pushes_is : (l : ℕ) (o : Op) → Says (line_at p l) o → pushes p l ≡ push_of (flag_at p l) o
  pushes_is l o s = ap (λ (c : ℕ). eqb c 1 && flag_at p l) s.code_is

  pub goes_on : (t k : ℕ) (c : Config) → Balanced p → Stands p t k c → ((b : Bool) × (c.place ≡ over b)) ⊎ ((d : Config) × Step p c d)
  goes_on t k c bal s = go c.place refl s.routed
    where
      room : (l : ℕ) (u : UnitId) (path : List ℕ) (o : Op) → OnRoute p u l path c.registers.cells → Says (line_at p l) o → push_of (flag_at p l) o ≡ true → (length c.registers.cells ≡ 8) ⊎ (length c.registers.cells ≡ 8 → ⊥) → length c.registers.cells < 8
      room l u path o w says h (inl q) = absurd (bal l (off w.real w.arrives (inr (inl (w.own, pushes_is l o says ∙ h, w.held bal ∙ ap pos q)))))
      room l u path o w says h (inr q) = let x = s.at_most in omega arith

      work : (u : UnitId) (l : ℕ) (o : Op) → op_at p l ≡ Some o → (path : List ℕ) → OnRoute p u l path c.registers.cells → (n : Done) × (effect (flag_at p l) p.activation o c.registers c.memory.bytes ≡ Some n)
      work u l o e path w =
          let says = decode_says (line_at p l) o e in
          works p (line_at p l) (flag_at p l) c.registers c.memory.bytes s.fitting.bytes_fit sec.activation_inside o (subst (λ (z : Option Op). Reaches p (line_at p l) z) e (ord.reaches l w.own.within))
          (λ h. room l u path o w says h (cases_eq (length c.registers.cells) 8))
          (λ h z. bal l (off w.real w.arrives (inl (w.own, says.pop_is ∙ h, w.held bal ∙ ap (λ (x : List Bool). pos (length x)) z))))

      go : (q : Place) → c.place ≡ q → Routed p t k q c.registers.cells → ((b : Bool) × (c.place ≡ over b)) ⊎ ((d : Config) × Step p c d)
      go (over b) e ro = inl (b, e)
      go (at u l) e ro =
          let w = ro.2 in
          let q = ord.known l w.own.within in
          let n = work u l q.0 q.1 ro.0 w in
          inr (turned p u l n.0.registers (with_bytes c.memory n.0.bytes) n.0.turn, step e w.own (ap (λ (x : Option Op). carried p u l c.memory (effected p l c.registers c.memory x)) q.1 ∙ ap (carried p u l c.memory) n.1))
