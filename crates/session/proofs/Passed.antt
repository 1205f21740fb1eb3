-- Passes of modules that always come to their end, put together to the calls. Assumes nothing.
use Rattle.std.proofs.Common.{◌≡◌, ℕ, ◌+◌, Bool, true, List, refl, subst}
use Rattle.rules.specs.declared.unit.UnitId.{UnitId}
use Rattle.rules.specs.declared.unit.UnitId.TheVariants.{Module}
use Rattle.rules.specs.declared.session.Phase.{Phase}
use Rattle.rules.specs.Program.{Program, input_module, main_module}
use Rattle.rules.specs.Run.{Memory, Passes}
use Rattle.rules.specs.Session.{with_inputs, BlockPart, Scans}

pub to_end : {p : Program} {u : UnitId} {m m' : Memory} {n : ℕ} {whole : Bool} → whole ≡ true → Passes p u m n whole m' → Passes p u m n true m'
to_end {p} {u} {m} {m'} {n} e q = subst (λ (w : Bool). Passes p u m n w m') e q

-- each of three parts of one program
pub scanned : {p p₀ p₁ p₂ : Program} {ins : List ℕ} {m m₀ m₁ m₂ m₃ : Memory} {before after : Phase} {i b n : ℕ} {w v : Bool} →
    p₀ ≡ p → p₁ ≡ p → p₂ ≡ p → m₀ ≡ with_inputs m ins → w ≡ true → Passes p₀ (Module input_module) m₀ i w m₁ → BlockPart p₁ m₁ b m₂ before after → v ≡ true → Passes p₂ (Module main_module) m₂ n v m₃ →
    Scans p ins (record { memory = m; phase = before }) (i + b + n) (record { memory = m₃; phase = after })
scanned {p} {m₀ = m₀} {m₁ = m₁} {m₂ = m₂} {m₃ = m₃} {before = before} {after = after} {i = i} {b = b} {n = n} f g h e x q r y s = record {
  after_input = m₁;
  after_block = m₂;
  input_steps = i;
  block_steps = b;
  main_steps = n;
  input_pass = subst (λ (z : Memory). Passes p (Module input_module) z i true m₁) e (subst (λ (z : Program). Passes z (Module input_module) m₀ i true m₁) f (to_end x q));
  block_part = subst (λ (z : Program). BlockPart z m₁ b m₂ before after) g r;
  main_pass = subst (λ (z : Program). Passes z (Module main_module) m₂ n true m₃) h (to_end y s);
  counted = refl;
}
