-- A route goes down the text, so that a pass has no more steps than its module has lines. Assumes nothing.
use Rattle.std.proofs.Common.{◌≡◌, ℕ, ◌+◌, ◌<◌, ◌≤◌, Bool, true, false, ◌||◌, eqb, List, length, Some, Option, sym, refl, ap, ◌∙◌, subst, inl, inr, arith, lit<}
use Rattle.std.proofs.lemmas.Bool.{eqb-true, both_ways, false≢true}
use Rattle.rules.specs.declared.line.Line.{Line}
use Rattle.rules.specs.declared.op.Op.{Op}
use Rattle.rules.specs.declared.op.Logic.TheVariants.{And, Or, Xor}
use Rattle.rules.specs.declared.op.Op.TheVariants.{Ldr, Combine, CombineCell, Ca, Wr, Fl, Fl1, Jl, Ex, ExIf, Lod, Sto, Ad, Ge, Abs, MechBegin, MechEnd, MechInit}
use Rattle.rules.specs.Op.{is_begin, is_jump, is_exit}
use Rattle.rules.specs.Program.{Program, line_at, main_module, module_first, module_end, Own, begin_line, end_line, first, end, after, Real}
use Rattle.rules.specs.declared.unit.UnitId.{UnitId}
use Rattle.rules.specs.declared.unit.UnitId.TheVariants.{Module, Mechanism}
use Rattle.rules.specs.Form.{Shaped, Reaches}
use Rattle.rules.specs.Route.{Way, Entry, Arrives, at_entry, passed, Route, to_end, stopped, Steps, none, line, entered, Takes}
use Rattle.rules.specs.Run.{Place, at, over}
use Rattle.theory.specs.Decoded.{arg_of}
use Rattle.theory.specs.Standing.{Routed}
use Rattle.theory.proofs.Text.{named, inside, end_within}
use Rattle.theory.proofs.Decode.{op_code, decode_says}
use Rattle.theory.proofs.Orderly.{Orderly}
use Rattle.theory.proofs.Spans.{Span, span, span_at, begun_once}
use Rattle.theory.proofs.Units.{own_module, own_span, after_begin, after_plain}

begins_jumps : (x : Line) → is_begin x ≡ true → is_jump x ≡ false
begins_jumps x h = ap (λ (c : ℕ). eqb c 9 || eqb c 10) (eqb-true x.code 22 h)

pub begins_exits : (x : Line) → is_begin x ≡ true → is_exit x ≡ false
begins_exits x h = ap (λ (c : ℕ). eqb c 11 || (eqb c 12 || eqb c 13)) (eqb-true x.code 22 h)

-- only MECH_BEGIN has its code
begin_op : (o : Op) → eqb (op_code o) 22 ≡ true → (k : ℕ) × (o ≡ MechBegin k)
begin_op (Ldr s a) h = absurd (false≢true h)
begin_op (Combine And s a) h = absurd (false≢true h)
begin_op (Combine Or s a) h = absurd (false≢true h)
begin_op (Combine Xor s a) h = absurd (false≢true h)
begin_op (CombineCell And) h = absurd (false≢true h)
begin_op (CombineCell Or) h = absurd (false≢true h)
begin_op (CombineCell Xor) h = absurd (false≢true h)
begin_op (Ca) h = absurd (false≢true h)
begin_op (Wr a) h = absurd (false≢true h)
begin_op (Fl v a) h = absurd (false≢true h)
begin_op (Fl1 v a) h = absurd (false≢true h)
begin_op (Jl false t) h = absurd (false≢true h)
begin_op (Jl true t) h = absurd (false≢true h)
begin_op (Ex) h = absurd (false≢true h)
begin_op (ExIf false) h = absurd (false≢true h)
begin_op (ExIf true) h = absurd (false≢true h)
begin_op (Lod w a) h = absurd (false≢true h)
begin_op (Sto w a) h = absurd (false≢true h)
begin_op (Ad w a) h = absurd (false≢true h)
begin_op (Abs w) h = absurd (false≢true h)
begin_op (Ge w a) h = absurd (false≢true h)
begin_op (MechBegin k) h = (k, refl)
begin_op (MechEnd k) h = absurd (false≢true h)
begin_op (MechInit k) h = absurd (false≢true h)

module _ (p : Program) (sec : Shaped p) (ord : Orderly p) where
  -- a mechanism's MECH_BEGIN, found again
  pub begin_is : (l k : ℕ) → l < length p.lines → is_begin (line_at p l) ≡ true → (line_at p l).operand ≡ k → Span p k × (begin_line p k ≡ l)
  begin_is l k h b e =
      let s : Span p k = subst (λ (x : ℕ). Span p x) e (span_at p sec ord l h b) in
      let w = end_within p main_module sec.all_lines in
      let x = s.order in
      let y = s.to in
      (s, begun_once p sec ord (begin_line p k) l (omega arith) h s.begin_there b (s.begin_names ∙ sym e))

  pub own_low : (u : UnitId) (l : ℕ) → Real p u → Own p u l → first p u ≤ l
  own_low (Module n) l h o = (inside p l n sec.all_lines o.within (own_module p n l o).0).0
  own_low (Mechanism k) l h o = let q = (own_span p sec ord k l (span p sec ord k h) o).0 in omega arith

  pub own_high : (u : UnitId) (l : ℕ) → Real p u → Own p u l → l < end p u
  own_high (Module n) l h o = (inside p l n sec.all_lines o.within (own_module p n l o).0).1
  own_high (Mechanism k) l h o = let q = (own_span p sec ord k l (span p sec ord k h) o).1 in omega arith

  pub after_rises : (l : ℕ) → l < length p.lines → (b : Bool) → is_begin (line_at p l) ≡ b → l < after p l
  after_rises l h true e =
      let q = begin_is l (line_at p l).operand h e refl in
      let x = q.0.order in
      let y = q.1 in
      rw (after_begin p sec ord l e) (omega arith)
  after_rises l h false e = rw (after_plain p sec ord l e) (omega arith)

  pub way_rises : (l m : ℕ) → l < length p.lines → Way p l m → l < m
  way_rises l m h (inl (x, e)) = rw e (after_rises l h (is_begin (line_at p l)) refl)
  way_rises l m h (inr (j, e)) = rw e (ord.lands l h j).0

  entry_low : (u : UnitId) (l : ℕ) → Real p u → Entry p u l → first p u ≤ l
  entry_low u l h (inl e) = omega arith
  entry_low u l h (inr (x, o, z, e)) =
      let a = own_low u x h o in
      let b = after_rises x o.within (is_begin (line_at p x)) refl in
      omega arith

  pub path_length : (u : UnitId) {path : List ℕ} {l : ℕ} → Real p u → Arrives p u path l → first p u + length path ≤ l
  path_length u h (at_entry {m = m} e) = let q = entry_low u m h e in omega arith
  path_length u h (passed {l = l} {m = m} a o w) =
      let q = path_length u h a in
      let r = way_rises l m o.within w in
      omega arith

  pub inner_length : (k : ℕ) (inner : List ℕ) → Span p k → Real p (Mechanism k) → Route p (Mechanism k) inner → begin_line p k + length inner ≤ end_line p k
  inner_length k inner s h (to_end a) = let q = path_length (Mechanism k) h a in omega arith
  inner_length k inner s h (stopped {l = l} a o e) =
      let q = path_length (Mechanism k) h a in
      let r = (own_span p sec ord k l s o).1 in
      omega arith

  -- a mechanism that is begun is one of the program's
  pub begun_real : (l : ℕ) → l < length p.lines → is_begin (line_at p l) ≡ true → (line_at p l).operand < length p.activation
  begun_real l h b =
      let q = ord.known l h in
      let s = decode_says (line_at p l) q.0 q.1 in
      let o = begin_op q.0 (sym (ap (λ (c : ℕ). eqb c 22) s.code_is) ∙ b) in
      let r : Reaches p (line_at p l) (Some (MechBegin o.0)) = subst (λ (z : Option Op). Reaches p (line_at p l) z) (q.1 ∙ ap Some o.1) (ord.reaches l h) in
      let a : (line_at p l).operand ≡ o.0 = s.arg_is ∙ ap (λ (z : Op). arg_of z (line_at p l).operand) o.1 in
      rw a r

  begin_way : (l m : ℕ) → is_begin (line_at p l) ≡ true → Way p l m → m ≡ after p l
  begin_way l m b (inl (x, e)) = e
  begin_way l m b (inr (j, e)) = absurd (both_ways (is_jump (line_at p l)) (begins_jumps (line_at p l) b) j)

  pub module_steps : (t : ℕ) {path : List ℕ} {l n : ℕ} → Real p (Module t) → Arrives p (Module t) path l → Steps p path n → module_first p t + n ≤ l
  module_steps t h (at_entry {m = m} e) none = let q = entry_low (Module t) m h e in omega arith
  module_steps t h (passed {l = l} {m = m} a o w) (line s) =
      let q = module_steps t h a s in
      let r = way_rises l m o.within w in
      omega arith
  module_steps t h (passed {l = l} {m = m} a o w) (entered {inner = inner} b r s) =
      let q = module_steps t h a s in
      let k = (line_at p l).operand in
      let g = begin_is l k o.within b refl in
      let i = inner_length k inner g.0 (begun_real l o.within b) r in
      let e : m ≡ end_line p k + 1 = begin_way l m b w ∙ after_begin p sec ord l b in
      let y = g.1 in
      omega arith

  pub takes_bound : (t n : ℕ) → Real p (Module t) → Takes p (Module t) n → module_first p t + n ≤ module_end p t
  takes_bound t n h (path, to_end a, s) = module_steps t h a s
  takes_bound t n h (path, stopped {l = l} a o e, line s) =
      let q = module_steps t h a s in
      let r = own_high (Module t) l h o in
      omega arith
  takes_bound t n h (path, stopped {l = l} a o e, entered b r s) = absurd (both_ways (is_exit (line_at p l)) (begins_exits (line_at p l) b) e)

  -- a run of a module has so far taken no more steps than it has passed lines
  pub bound : (t k : ℕ) (q : Place) (cells : List Bool) → Real p (Module t) → Routed p t k q cells → k ≤ length p.lines
  bound t k (over b) cells h ro = let x = takes_bound t k h ro.0 in let w = end_within p t sec.all_lines in omega arith
  bound t k (at (Module n) l) cells h (path, tr, w) =
      let x = module_steps n w.real w.arrives tr.1 in
      let y = w.own.within in
      omega arith
  bound t k (at (Mechanism j) l) cells h (path, tr, w) =
      let o = tr.2 in
      let x = module_steps main_module (named p sec main_module (lit< tt)) o.arrives o.steps in
      let g = (begin_is o.begin_at j o.own.within o.begin_there o.names).1 in
      let y = path_length (Mechanism j) w.real w.arrives in
      let z = w.own.within in
      let e = tr.3 in
      omega arith
