-- Sessions of an accepted program: what holds after the start and after each call. Assumes nothing.
use Rattle.std.proofs.Common.{◌≡◌, ℕ, zero, suc, ◌+◌, ◌<◌, ◌≤◌, Bool, true, false, cond, eqb, ◌⊎◌, List, [], ◌∷◌, ◌++◌, length, get_or, drop, sym, refl, ap, ◌∙◌, subst, inl, inr, arith, lit<}
use Rattle.std.proofs.lemmas.List.{length-append, length-drop, length-take-le}
use Rattle.std.proofs.lemmas.Bool.{eqb-true}
use Rattle.rules.specs.declared.session.Phase.{Phase}
use Rattle.rules.specs.declared.session.Phase.TheVariants.{Idle, Preparing, Moving, Closing}
use Rattle.rules.specs.declared.session.Call.{Call}
use Rattle.rules.specs.declared.session.Call.TheVariants.{Scan, Clear, BlockStart, PositionReport, Halt}
use Rattle.rules.specs.declared.session.Answer.{Answer}
use Rattle.rules.specs.declared.session.Answer.TheVariants.{Scanned, Done, Refused}
use Rattle.rules.specs.declared.refusal.Rule.TheVariants.{BlockStartOutsidePhase0, ReportOutsidePhase2}
use Rattle.rules.specs.Program.{Program, input_module, block_init, block_done, main_module, init_module, clear_module, halt_module, first, sequential}
use Rattle.rules.specs.declared.unit.UnitId.{UnitId}
use Rattle.rules.specs.declared.unit.UnitId.TheVariants.{Module, Mechanism}
use Rattle.rules.specs.Number.{Bytes}
use Rattle.rules.specs.Image.{data_section}
use Rattle.rules.specs.Route.{Entry, Takes, BlockTakes, ScanTakes, Greatest}
use Rattle.rules.specs.Verdict.{Formed, Accepted, Certified}
use Rattle.rules.specs.Run.{Memory, Place, Passes}
use Rattle.rules.specs.Cabinet.{Eight, Meaning, Lawful, Serving}
use Rattle.rules.specs.Session.{Running, Machine, first_lines, fresh, outputs, with_inputs, zav_fce, block_points_back, BlockPart, idle, prepares, closes, after_preparing, after_closing, after_report, Scans, Starts, Outcome, scans, clears, starts_block, no_block, reports, no_report, halts, CabinetAfter, Session, started, called}
use Rattle.rules.specs.Kept.{Pointed, Ruled, RunsPass, for_input, for_block, for_main, for_clear, for_halt, Within, OneStart, OneOutcome, Guaranteed}
use Rattle.theory.specs.Standing.{Fitting, Routed}
use Rattle.theory.specs.Laws.{ScansAreRoutes, ScansExist, Guarantee, SessionsGoOn}
use Rattle.theory.proofs.Text.{named}
use Rattle.theory.proofs.Orderly.{orderly}
use Rattle.theory.proofs.Points.{bytes_kept}
use Rattle.theory.proofs.Stands.{runs_stand}
use Rattle.theory.proofs.Ruled.{formed, passes_are_ruled, passes_end, stack_at_most_eight}
use Rattle.theory.proofs.Bytes.{append_small, passes_small}
use Rattle.theory.proofs.Images.{small_take, small_drop}
use Rattle.theory.proofs.Outcomes.{starts_alike, outcomes_alike}

-- MEMORIES THAT FIT

first_lines_length : (p : Program) (k : ℕ) (bs : List ℕ) → length (first_lines p k bs) ≡ length bs
first_lines_length p k [] = refl
first_lines_length p k (b ∷ bs) = ap suc (first_lines_length p (k + 1) bs)

first_lines_at : (p : Program) (k j : ℕ) (bs : List ℕ) → j < length bs → get_or (first_lines p k bs) j 0 ≡ first p (Mechanism (k + j))
first_lines_at p k j [] h = absurd (omega arith)
first_lines_at p k zero (b ∷ bs) h = let q : k ≡ k + 0 = omega arith in ap (λ (x : ℕ). first p (Mechanism x)) q
first_lines_at p k (suc j) (b ∷ bs) h = let q : k + 1 + j ≡ k + suc j = omega arith in first_lines_at p (k + 1) j bs (omega arith) ∙ ap (λ (x : ℕ). first p (Mechanism x)) q

-- the block modules' points at their first lines
block_entry : (p : Program) (n : ℕ) → Entry p (Module n) (cond (eqb n block_init) (first p (Module block_init)) (cond (eqb n block_done) (first p (Module block_done)) (first p (Module n))))
block_entry p n = go (eqb n block_init) (eqb n block_done) refl refl
  where
    go : (a b : Bool) → eqb n block_init ≡ a → eqb n block_done ≡ b → Entry p (Module n) (cond a (first p (Module block_init)) (cond b (first p (Module block_done)) (first p (Module n))))
    go true b x y = inl (ap (λ (z : ℕ). first p (Module z)) (sym (eqb-true n block_init x)))
    go false true x y = inl (ap (λ (z : ℕ). first p (Module z)) (sym (eqb-true n block_done y)))
    go false false x y = inl refl

pub fresh_fits : (p : Program) → Fitting p (fresh p)
fresh_fits p = record { bytes_fit = refl; points_fit = first_lines_length p 0 p.activation; pointed = pointed_first }
  where
    pointed_first : Pointed p (fresh p)
    pointed_first (Module n) h s = block_entry p n
    pointed_first (Mechanism k) h s = inl (first_lines_at p 0 k p.activation h ∙ (let q : 0 + k ≡ k = omega arith in ap (λ (x : ℕ). first p (Mechanism x)) q))

pub back_fits : (p : Program) (m : Memory) → Fitting p m → Fitting p (block_points_back p m)
back_fits p m f = record { bytes_fit = f.bytes_fit; points_fit = f.points_fit; pointed = pointed_back }
  where
    pointed_back : Pointed p (block_points_back p m)
    pointed_back (Module n) h s = block_entry p n
    pointed_back (Mechanism k) h s = f.pointed (Mechanism k) h s

module _ (p : Program) (form : Formed p) where
  pub inputs_fit : (m : Memory) (ins : List ℕ) → length ins ≡ 8 → Fitting p m → Fitting p (with_inputs m ins)
  inputs_fit m ins e f =
      let d : 17 ≤ length p.initial = (form.shaped.counts data_section).0 in
      let g : length m.bytes ≡ length p.initial = f.bytes_fit in
      bytes_kept p m f (ins ++ drop 8 m.bytes) (simp (length-append, length-drop) (omega arith))

  -- a finished pass leaves a memory that fits, and has taken a route
  pub passed_fits : (t : ℕ) (m : Memory) (n : ℕ) (b : Bool) (m' : Memory) → t < 7 → Fitting p m → Passes p (Module t) m n b m' → Fitting p m' × Takes p (Module t) n
  passed_fits t m n b m' h f q =
      let s = runs_stand p form.shaped (orderly p form) t m (named p form.shaped t h) f n q.last q.runs in
      (subst (λ (x : Memory). Fitting p x) q.memory_after s.fitting, (subst (λ (x : Place). Routed p t n x q.last.registers.cells) q.over_at s.routed).0)

  block_fits : (m : Memory) (n : ℕ) (m' : Memory) (a b : Phase) → Fitting p m → BlockPart p m n m' a b → Fitting p m' × BlockTakes p n
  block_fits m n m' a b f (idle c z e) = (subst (λ (x : Memory). Fitting p x) (sym e) f, inl z)
  block_fits m n m' a b f (prepares {whole = w} q e) = let g = passed_fits block_init m n w m' (lit< tt) f q in (g.0, inr (inl g.1))
  block_fits m n m' a b f (closes {whole = w} q e) = let g = passed_fits block_done m n w m' (lit< tt) f q in (g.0, inr (inr g.1))

  scan_fits : (ins : List ℕ) (before after : Machine) (n : ℕ) → length ins ≡ 8 → Fitting p before.memory → Scans p ins before n after → Fitting p after.memory × ScanTakes p n
  scan_fits ins before after n e f s =
      let i = passed_fits input_module (with_inputs before.memory ins) s.input_steps true s.after_input (lit< tt) (inputs_fit before.memory ins e f) s.input_pass in
      let b = block_fits s.after_input s.block_steps s.after_block before.phase after.phase i.0 s.block_part in
      let m = passed_fits main_module s.after_block s.main_steps true after.memory (lit< tt) b.0 s.main_pass in
      (m.0, record { input = s.input_steps; block = s.block_steps; main = s.main_steps; input_takes = i.1; block_takes = b.1; main_takes = m.1; adds_up = s.counted })

-- the inputs and a block part keep the data bytes
inputs_small : (m : Memory) (ins : List ℕ) → Bytes ins → Bytes m.bytes → Bytes (with_inputs m ins).bytes
inputs_small m ins h g = append_small ins (drop 8 m.bytes) h (small_drop 8 m.bytes g)

block_small : (p : Program) {m m' : Memory} {n : ℕ} {a b : Phase} → BlockPart p m n m' a b → Bytes m.bytes → Bytes m'.bytes
block_small p (idle c z e) h = subst (λ (x : Memory). Bytes x.bytes) (sym e) h
block_small p (prepares q e) h = passes_small p q h
block_small p (closes q e) h = passes_small p q h

pub scans_are_routes : ScansAreRoutes
scans_are_routes p ins before after n form e f s = scan_fits p form ins before after n e f s

-- PHASES

-- whether a phase is phase 0
at_idle : (q : Phase) → (q ≡ Idle) ⊎ (q ≡ Idle → ⊥)
at_idle Idle = inl refl
at_idle Preparing = inr (λ e. let z : ◌≡◌ {A = ℕ} 0 1 = cc in omega arith)
at_idle Moving = inr (λ e. let z : ◌≡◌ {A = ℕ} 0 1 = cc in omega arith)
at_idle Closing = inr (λ e. let z : ◌≡◌ {A = ℕ} 0 1 = cc in omega arith)

-- whether a phase is phase 2
at_moving : (q : Phase) → (q ≡ Moving) ⊎ (q ≡ Moving → ⊥)
at_moving Idle = inr (λ e. let z : ◌≡◌ {A = ℕ} 0 1 = cc in omega arith)
at_moving Preparing = inr (λ e. let z : ◌≡◌ {A = ℕ} 0 1 = cc in omega arith)
at_moving Moving = inl refl
at_moving Closing = inr (λ e. let z : ◌≡◌ {A = ℕ} 0 1 = cc in omega arith)

-- CALLS COME TO THEIR END

module _ (p : Program) (acc : Accepted p) where
  form : Formed p
  form = formed p acc

  -- a machine that calls can be made on
  pub record Ready (machine : Machine) : Type 0 where
    pub fits : Fitting p machine.memory
    pub small : Bytes machine.memory.bytes

  whole_pass : (t : ℕ) (m : Memory) → t < 7 → sequential (Module t) ≡ false → Fitting p m → (n : ℕ) × (m' : Memory) × Passes p (Module t) m n true m' × Fitting p m'
  whole_pass t m h z f =
      let e = passes_end p t m acc (named p acc.shaped t h) f in
      let q = subst (λ (b : Bool). Passes p (Module t) m e.0 b e.2) (e.5 z) e.3 in
      (e.0, e.2, q, (passed_fits p form t m e.0 true e.2 h f q).0)

  block_exists : (m : Memory) (q : Phase) → Fitting p m → (n : ℕ) × (m' : Memory) × (q' : Phase) × BlockPart p m n m' q q' × Fitting p m'
  block_exists m Idle f = (0, m, Idle, idle (inl refl) refl refl, f)
  block_exists m Preparing f =
      let r = passes_end p block_init m acc (named p acc.shaped block_init (lit< tt)) f in
      (r.0, r.2, after_preparing r.1, prepares r.3 refl, (passed_fits p form block_init m r.0 r.1 r.2 (lit< tt) f r.3).0)
  block_exists m Moving f = (0, m, Moving, idle (inr refl) refl refl, f)
  block_exists m Closing f =
      let r = passes_end p block_done m acc (named p acc.shaped block_done (lit< tt)) f in
      (r.0, r.2, after_closing r.1, closes r.3 refl, (passed_fits p form block_done m r.0 r.1 r.2 (lit< tt) f r.3).0)

  scan_exists : (ins : List ℕ) (before : Machine) → length ins ≡ 8 → Fitting p before.memory → (n : ℕ) × (after : Machine) × Scans p ins before n after
  scan_exists ins before e f =
      let i = whole_pass input_module (with_inputs before.memory ins) (lit< tt) refl (inputs_fit p form before.memory ins e f) in
      let b = block_exists i.1 before.phase i.3 in
      let m = whole_pass main_module b.1 (lit< tt) refl b.4 in
      (i.0 + b.0 + m.0, record { memory = m.1; phase = b.2 }, record { after_input = i.1; after_block = b.1; input_steps = i.0; block_steps = b.0; main_steps = m.0; input_pass = i.2; block_part = b.3; main_pass = m.2; counted = refl })

  start_exists : (answer : Answer) × (after : Machine) × Starts p answer after
  start_exists =
      let i = whole_pass init_module (fresh p) (lit< tt) refl (fresh_fits p) in
      (Done Idle, record { memory = i.1; phase = Idle }, record { steps = i.0; init_pass = i.2; phase_zero = refl; answers = refl })

  outcome_exists : (ins : List ℕ) (before : Machine) → length ins ≡ 8 → Ready before → (c : Call) → (r : Answer) × (after : Machine) × Outcome p ins before c r after
  outcome_exists ins before e h Scan = let w = scan_exists ins before e h.fits in (Scanned w.0 w.1.phase, w.1, scans w.2)
  outcome_exists ins before e h Clear =
      let i = whole_pass clear_module before.memory (lit< tt) refl h.fits in
      (Done Idle, record { memory = block_points_back p i.1; phase = Idle }, clears (record { steps = i.0; cleared_memory = i.1; clear_pass = i.2; memory_is = refl; phase_zero = refl }))
  outcome_exists ins before e h BlockStart = elim (at_idle before.phase) [ inl z ↦ (Done Preparing, record { memory = before.memory; phase = Preparing }, starts_block z refl) | inr n ↦ (Refused BlockStartOutsidePhase0 before.phase, before, no_block n) ]
  outcome_exists ins before e h PositionReport = elim (at_moving before.phase) [ inl z ↦ (Done (after_report (zav_fce before.memory)), record { memory = before.memory; phase = after_report (zav_fce before.memory) }, reports z refl) | inr n ↦ (Refused ReportOutsidePhase2 before.phase, before, no_report n) ]
  outcome_exists ins before e h Halt =
      let i = whole_pass halt_module before.memory (lit< tt) refl h.fits in
      (Done before.phase, record { memory = i.1; phase = before.phase }, halts (record { steps = i.0; halt_pass = i.2; phase_stays = refl }))

  one_start : OneStart p
  one_start = let w = start_exists in record { answer = w.0; machine_after = w.1; starts = w.2; no_other = λ r m s. starts_alike p r w.0 m w.1 s w.2 }

  one_outcome : (ins : List ℕ) (before : Machine) → length ins ≡ 8 → Ready before → (c : Call) → OneOutcome p ins before c
  one_outcome ins before e h c = let w = outcome_exists ins before e h c in record { answer = w.0; machine_after = w.1; comes = w.2; no_other = λ r m s. outcomes_alike p ins before c r w.0 m w.1 s w.2 }

  -- READY AFTER EACH CALL

  start_ready : (r : Answer) (after : Machine) → Starts p r after → Ready after
  start_ready r after s = record { fits = (passed_fits p form init_module (fresh p) s.steps true after.memory (lit< tt) (fresh_fits p) s.init_pass).0; small = passes_small p s.init_pass acc.shaped.bytes_small }

  call_ready : (ins : List ℕ) (before after : Machine) (c : Call) (r : Answer) → length ins ≡ 8 → Bytes ins → Ready before → Outcome p ins before c r after → Ready after
  call_ready ins before after c r l i h (scans {n = n} s) = record { fits = (scan_fits p form ins before after n l h.fits s).0; small = passes_small p s.main_pass (block_small p s.block_part (passes_small p s.input_pass (inputs_small before.memory ins i h.small))) }
  call_ready ins before after c r l i h (clears s) =
      let g = passed_fits p form clear_module before.memory s.steps true s.cleared_memory (lit< tt) h.fits s.clear_pass in
      record { fits = subst (λ (z : Memory). Fitting p z) (sym s.memory_is) (back_fits p s.cleared_memory g.0); small = subst (λ (z : Memory). Bytes z.bytes) (sym s.memory_is) (passes_small p s.clear_pass h.small) }
  call_ready ins before after c r l i h (starts_block q e) = subst Ready (sym e) (record { fits = h.fits; small = h.small })
  call_ready ins before after c r l i h (no_block q) = h
  call_ready ins before after c r l i h (reports q e) = subst Ready (sym e) (record { fits = h.fits; small = h.small })
  call_ready ins before after c r l i h (no_report q) = h
  call_ready ins before after c r l i h (halts s) =
      let g = passed_fits p form halt_module before.memory s.steps true after.memory (lit< tt) h.fits s.halt_pass in
      record { fits = g.0; small = passes_small p s.halt_pass h.small }

  -- THE SCANS' STEPS

  within_call : (scan : ℕ) → Greatest (ScanTakes p) scan → (ins : List ℕ) (done : List (Call × Answer)) (before after : Machine) (c : Call) (r : Answer) → length ins ≡ 8 → Ready before → Within scan done → Outcome p ins before c r after → Within scan ((c, r) ∷ done)
  within_call scan most ins done before after c r l h w (scans {n = n} s) = (most.none_above n (scan_fits p form ins before after n l h.fits s).1, w)
  within_call scan most ins done before after c r l h w (clears s) = w
  within_call scan most ins done before after c r l h w (starts_block q e) = w
  within_call scan most ins done before after c r l h w (no_block q) = w
  within_call scan most ins done before after c r l h w (reports q e) = w
  within_call scan most ins done before after c r l h w (no_report q) = w
  within_call scan most ins done before after c r l h w (halts s) = w

  -- THE NEXT CALL'S PASSES

  module _ (lines stack scan : ℕ) (cert : Certified p lines stack scan) where
    ruled_by : (t : ℕ) (m : Memory) → t < 7 → Fitting p m → (u : UnitId) → u ≡ Module t → Ruled p stack u m
    ruled_by t m h f u e = subst (λ (z : UnitId). Ruled p stack z m) (sym e) (passes_are_ruled p lines stack scan acc cert (Module t) m (named p acc.shaped t h) f)

    next_ruled : (ins : List ℕ) (machine : Machine) → length ins ≡ 8 → Fitting p machine.memory → (u : UnitId) (m : Memory) → RunsPass p machine ins u m → Ruled p stack u m
    next_ruled ins machine l f u m (for_input e q) = ruled_by input_module m (lit< tt) (subst (λ (z : Memory). Fitting p z) (sym q) (inputs_fit p form machine.memory ins l f)) u e
    next_ruled ins machine l f u m (for_block {a = a} q (inl e)) = ruled_by block_init m (lit< tt) (passed_fits p form input_module (with_inputs machine.memory ins) a true m (lit< tt) (inputs_fit p form machine.memory ins l f) q).0 u e.1
    next_ruled ins machine l f u m (for_block {a = a} q (inr e)) = ruled_by block_done m (lit< tt) (passed_fits p form input_module (with_inputs machine.memory ins) a true m (lit< tt) (inputs_fit p form machine.memory ins l f) q).0 u e.1
    next_ruled ins machine l f u m (for_main {a = a} {b = b} {q = n} {m₁ = m₁} q s e) =
        let i = passed_fits p form input_module (with_inputs machine.memory ins) a true m₁ (lit< tt) (inputs_fit p form machine.memory ins l f) q in
        ruled_by main_module m (lit< tt) (block_fits p form m₁ b m machine.phase n i.0 s).0 u e
    next_ruled ins machine l f u m (for_clear e q) = ruled_by clear_module m (lit< tt) (subst (λ (z : Memory). Fitting p z) (sym q) f) u e
    next_ruled ins machine l f u m (for_halt e q) = ruled_by halt_module m (lit< tt) (subst (λ (z : Memory). Fitting p z) (sym q) f) u e

pub scans_exist : ScansExist
scans_exist p ins before acc e f = scan_exists p acc ins before e f

-- SESSIONS GO ON

outputs_eight : (p : Program) (acc : Accepted p) (machine : Machine) → Ready p acc machine → Eight (outputs machine.memory)
outputs_eight p acc machine h =
    let d : 17 ≤ length p.initial = (acc.shaped.counts data_section).0 in
    let g : length machine.memory.bytes ≡ length p.initial = h.fits.bytes_fit in
    record { eight = length-take-le 8 (drop 8 machine.memory.bytes) (simp length-drop (omega arith)); small = small_take 8 (drop 8 machine.memory.bytes) (small_drop 8 machine.memory.bytes h.small) }

module _ {X : Type 0} (M : Meaning X) (law : Lawful M) (serve : Serving M) (p : Program) (acc : Accepted p) (x₀ : X) where
  session_ready : (a : Answer) (done : List (Call × Answer)) (machine : Machine) (x : X) → Session M p x₀ a done machine x → Ready p acc machine
  session_ready a done machine x (started s v) = start_ready p acc a machine s
  session_ready a done machine x (called {done = d} {before = b} {x = w} {c = c} {r = r} s run o v) = call_ready p acc (M.inputs w) b machine c r (law.eight_inputs w).eight (law.eight_inputs w).small (session_ready a d b w s) o

  served : (c : Call) (x : X) (m : Memory) → Eight (outputs m) → (y : X) × CabinetAfter M c x m y
  served Scan x m e = let a = serve.sends x (outputs m) e in let b = serve.advances a.0 in (b.0, (a.0, a.1, b.1))
  served Clear x m e = serve.sends x (outputs m) e
  served BlockStart x m e = (x, refl)
  served PositionReport x m e = (x, refl)
  served Halt x m e = serve.sends x (outputs m) e

  first_session : (a : Answer) × (machine : Machine) × (x : X) × Session M p x₀ a [] machine x
  first_session =
      let w = start_exists p acc in
      let y = serve.sends x₀ (outputs w.1.memory) (outputs_eight p acc w.1 (start_ready p acc w.0 w.1 w.2)) in
      (w.0, w.1, y.0, started w.2 y.1)

  next_session : (a : Answer) (done : List (Call × Answer)) (machine : Machine) (x : X) → Session M p x₀ a done machine x → Running done → (c : Call) → (r : Answer) × (after : Machine) × (y : X) × Session M p x₀ a ((c, r) ∷ done) after y
  next_session a done machine x s run c =
      let h = session_ready a done machine x s in
      let l = law.eight_inputs x in
      let o = outcome_exists p acc (M.inputs x) machine l.eight h c in
      let k = call_ready p acc (M.inputs x) machine o.1 c o.0 l.eight l.small h o.2 in
      let y = served c x o.1.memory (outputs_eight p acc o.1 k) in
      (o.0, o.1, y.0, called s run o.2 y.1)

pub sessions_go_on : {X : Type 0} (M : Meaning X) → SessionsGoOn M
sessions_go_on M law serve p acc x₀ = (first_session M law serve p acc x₀, next_session M law serve p acc x₀)

-- THE GUARANTEE

module _ {X : Type 0} (M : Meaning X) (law : Lawful M) (p : Program) (acc : Accepted p) (lines stack scan : ℕ) (cert : Certified p lines stack scan) where
  record Holds (first_answer : Answer) (done : List (Call × Answer)) (machine : Machine) (x : X) : Type 0 where
    ready : Ready p acc machine
    shows : M.terminals x ≡ outputs machine.memory
    within : Within scan done
    answered : first_answer ≡ Done Idle

  -- a call that leaves the memory alone leaves the cabinet alone
  after_shows : (before after : Machine) (x y : X) (c : Call) (r : Answer) → M.terminals x ≡ outputs before.memory → Outcome p (M.inputs x) before c r after → CabinetAfter M c x after.memory y → M.terminals y ≡ outputs after.memory
  after_shows before after x y c r h (scans s) v = v.2.terminals_stay ∙ v.1.terminals_are
  after_shows before after x y c r h (clears s) v = v.terminals_are
  after_shows before after x y c r h (starts_block q e) v = ap M.terminals v ∙ h ∙ ap (λ (z : Machine). outputs z.memory) (sym e)
  after_shows before after x y c r h (no_block q) v = ap M.terminals v ∙ h
  after_shows before after x y c r h (reports q e) v = ap M.terminals v ∙ h ∙ ap (λ (z : Machine). outputs z.memory) (sym e)
  after_shows before after x y c r h (no_report q) v = ap M.terminals v ∙ h
  after_shows before after x y c r h (halts s) v = v.terminals_are

  session_holds : (x₀ : X) (first_answer : Answer) (done : List (Call × Answer)) (machine : Machine) (x : X) → Session M p x₀ first_answer done machine x → Holds first_answer done machine x
  session_holds x₀ a done machine x (started s v) = record { ready = start_ready p acc a machine s; shows = v.terminals_are; within = tt; answered = s.answers ∙ ap Done s.phase_zero }
  session_holds x₀ a done machine x (called {done = d} {before = b} {x = w} {c = c} {r = r} s run o v) =
      let h = session_holds x₀ a d b w s in
      let l = (law.eight_inputs w).eight in
      record {
        ready = call_ready p acc (M.inputs w) b machine c r l (law.eight_inputs w).small h.ready o;
        shows = after_shows b machine w x c r h.shows o v;
        within = within_call p acc scan cert.scan_is (M.inputs w) d b machine c r l h.ready h.within o;
        answered = h.answered;
      }

  pub guaranteed : Guaranteed M p stack scan
  guaranteed = record {
    at_most_eight = stack_at_most_eight p lines stack scan acc cert;
    one_start = one_start p acc;
    start_ruled = passes_are_ruled p lines stack scan acc cert (Module init_module) (fresh p) (named p acc.shaped init_module (lit< tt)) (fresh_fits p);
    kept = λ x₀ a done machine x s. (let h = session_holds x₀ a done machine x s in
        record {
          ruled = next_ruled p acc lines stack scan cert (M.inputs x) machine (law.eight_inputs x).eight h.ready.fits;
          scans_within = h.within;
          shown = h.shows;
          as_many = h.ready.fits.bytes_fit;
          bytes_small = h.ready.small;
          start_answered = h.answered;
          one_outcome = one_outcome p acc (M.inputs x) machine (law.eight_inputs x).eight h.ready;
        });
  }

pub guarantee : {X : Type 0} (M : Meaning X) → Guarantee M
guarantee M law p lines stack scan acc cert = guaranteed M law p acc lines stack scan cert
