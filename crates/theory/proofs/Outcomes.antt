-- A call has one outcome: of two, neither the answer nor the machine after it differs. Assumes nothing.
use Rattle.std.proofs.Common.{◌≡◌, ℕ, true, List, sym, refl, ap, ◌∙◌, subst, ap₂, inl, inr, arith}
use Rattle.rules.specs.declared.session.Phase.{Phase}
use Rattle.rules.specs.declared.session.Answer.{Answer}
use Rattle.rules.specs.declared.session.Answer.TheVariants.{Scanned, Done}
use Rattle.rules.specs.Program.{Program, input_module, block_init, block_done, main_module, init_module, clear_module, halt_module}
use Rattle.rules.specs.declared.unit.UnitId.TheVariants.{Module}
use Rattle.rules.specs.Run.{Memory, Passes}
use Rattle.rules.specs.Session.{Machine, fresh, with_inputs, block_points_back, BlockPart, idle, prepares, closes, Scans, after_preparing, after_closing, Clears, Halts, Starts, scans, clears, starts_block, no_block, reports, no_report, halts}
use Rattle.theory.specs.Laws.{OutcomesAlike}
use Rattle.theory.proofs.Alike.{passes_alike}

machine_eq : (m n : Machine) → m.memory ≡ n.memory → m.phase ≡ n.phase → m ≡ n
machine_eq m n h q = λ i. record { memory = h i; phase = q i }

block_alike : {p : Program} {m : Memory} {n₁ n₂ : ℕ} {m₁ m₂ : Memory} {b a₁ a₂ : Phase} → BlockPart p m n₁ m₁ b a₁ → BlockPart p m n₂ m₂ b a₂ → (n₁ ≡ n₂) × (m₁ ≡ m₂) × (a₁ ≡ a₂)
block_alike (idle c z e) (idle c₂ z₂ e₂) = (z ∙ sym z₂, e ∙ sym e₂, refl)
block_alike (idle (inl c) z e) (prepares q f) = absurd (let z : ◌≡◌ {A = ℕ} 0 1 = cc in omega arith)
block_alike (idle (inr c) z e) (prepares q f) = absurd (let z : ◌≡◌ {A = ℕ} 0 1 = cc in omega arith)
block_alike (idle (inl c) z e) (closes q f) = absurd (let z : ◌≡◌ {A = ℕ} 0 1 = cc in omega arith)
block_alike (idle (inr c) z e) (closes q f) = absurd (let z : ◌≡◌ {A = ℕ} 0 1 = cc in omega arith)
block_alike (prepares q f) (idle (inl c) z e) = absurd (let z : ◌≡◌ {A = ℕ} 0 1 = cc in omega arith)
block_alike (prepares q f) (idle (inr c) z e) = absurd (let z : ◌≡◌ {A = ℕ} 0 1 = cc in omega arith)
block_alike {p} {m} {n₁} {n₂} {m₁} {m₂} (prepares {whole = w} q f) (prepares {whole = w₂} q₂ f₂) =
    let s = passes_alike p (Module block_init) m n₁ n₂ w w₂ m₁ m₂ q q₂ in
    (s.0, s.2, f ∙ ap after_preparing s.1 ∙ sym f₂)
block_alike (closes q f) (idle (inl c) z e) = absurd (let z : ◌≡◌ {A = ℕ} 0 1 = cc in omega arith)
block_alike (closes q f) (idle (inr c) z e) = absurd (let z : ◌≡◌ {A = ℕ} 0 1 = cc in omega arith)
block_alike {p} {m} {n₁} {n₂} {m₁} {m₂} (closes {whole = w} q f) (closes {whole = w₂} q₂ f₂) =
    let s = passes_alike p (Module block_done) m n₁ n₂ w w₂ m₁ m₂ q q₂ in
    (s.0, s.2, f ∙ ap after_closing s.1 ∙ sym f₂)

module _ (p : Program) where
  scans_alike : (ins : List ℕ) (before : Machine) (k l : ℕ) (m n : Machine) → Scans p ins before k m → Scans p ins before l n → (k ≡ l) × (m ≡ n)
  scans_alike ins before k l m n x y =
      let i = passes_alike p (Module input_module) (with_inputs before.memory ins) x.input_steps y.input_steps true true x.after_input y.after_input x.input_pass y.input_pass in
      let b = block_alike (subst (λ (z : Memory). BlockPart p z x.block_steps x.after_block before.phase m.phase) i.2 x.block_part) y.block_part in
      let j = passes_alike p (Module main_module) y.after_block x.main_steps y.main_steps true true m.memory n.memory (subst (λ (z : Memory). Passes p (Module main_module) z x.main_steps true m.memory) b.1 x.main_pass) y.main_pass in
      let e₁ = x.counted in
      let e₂ = y.counted in
      let a₁ = i.0 in
      let a₂ = b.0 in
      let a₃ = j.0 in
      (omega arith, machine_eq m n j.2 b.2)

  clears_alike : (before m n : Machine) → Clears p before m → Clears p before n → m ≡ n
  clears_alike before m n x y =
      let i = passes_alike p (Module clear_module) before.memory x.steps y.steps true true x.cleared_memory y.cleared_memory x.clear_pass y.clear_pass in
      machine_eq m n (x.memory_is ∙ ap (block_points_back p) i.2 ∙ sym y.memory_is) (x.phase_zero ∙ sym y.phase_zero)

  halts_alike : (before m n : Machine) → Halts p before m → Halts p before n → m ≡ n
  halts_alike before m n x y =
      let i = passes_alike p (Module halt_module) before.memory x.steps y.steps true true m.memory n.memory x.halt_pass y.halt_pass in
      machine_eq m n i.2 (x.phase_stays ∙ sym y.phase_stays)

  pub starts_alike : (r s : Answer) (m n : Machine) → Starts p r m → Starts p s n → (r ≡ s) × (m ≡ n)
  starts_alike r s m n x y =
      let i = passes_alike p (Module init_module) (fresh p) x.steps y.steps true true m.memory n.memory x.init_pass y.init_pass in
      let e = machine_eq m n i.2 (x.phase_zero ∙ sym y.phase_zero) in
      (x.answers ∙ ap (λ (z : Machine). Done z.phase) e ∙ sym y.answers, e)

told : (m n : Machine) → m ≡ n → (Done m.phase ≡ Done n.phase) × (m ≡ n)
told m n e = (ap (λ (z : Machine). Done z.phase) e, e)

pub outcomes_alike : OutcomesAlike
outcomes_alike p ins before c r s m n (scans {n = k} x) (scans {n = l} y) =
    let e = scans_alike p ins before k l m n x y in
    (ap₂ Scanned e.0 (ap (λ (z : Machine). z.phase) e.1), e.1)
outcomes_alike p ins before c r s m n (clears x) (clears y) = told m n (clears_alike p before m n x y)
outcomes_alike p ins before c r s m n (starts_block q e) (starts_block q₂ e₂) = told m n (e ∙ sym e₂)
outcomes_alike p ins before c r s m n (starts_block q e) (no_block k) = absurd (k q)
outcomes_alike p ins before c r s m n (no_block k) (starts_block q e) = absurd (k q)
outcomes_alike p ins before c r s m n (no_block k) (no_block k₂) = (refl, refl)
outcomes_alike p ins before c r s m n (reports q e) (reports q₂ e₂) = told m n (e ∙ sym e₂)
outcomes_alike p ins before c r s m n (reports q e) (no_report k) = absurd (k q)
outcomes_alike p ins before c r s m n (no_report k) (reports q e) = absurd (k q)
outcomes_alike p ins before c r s m n (no_report k) (no_report k₂) = (refl, refl)
outcomes_alike p ins before c r s m n (halts x) (halts y) = told m n (halts_alike p before m n x y)
