-- The loop of a pass: the run so far, one line more, and the pass that is over. Assumes nothing.
use Rattle.std.proofs.Common.{◌≡◌, ℕ, ◌+◌, ◌<◌, Bool, true, false, sym, refl, subst, add-one}
use Rattle.std.proofs.lemmas.Bool.{both_ways}
use Rattle.rules.specs.declared.unit.UnitId.TheVariants.{Module}
use Rattle.rules.specs.Op.{decode}
use Rattle.rules.specs.Program.{Program, line_at, flag_at, sequential}
use Rattle.rules.specs.Run.{Memory, Config, enter, Step, Runs, on}
use Rattle.rules.specs.Verdict.{Accepted}
use Rattle.theory.specs.Standing.{Fitting, Routed}
use Rattle.theory.proofs.Stands.{Stands}
use Rattle.machine.specs.declared.place.Place.{Place}
use Rattle.machine.specs.declared.place.Place.TheVariants.{At, Over}
use Rattle.machine.specs.declared.run.Run.{Run}
use Rattle.lines.specs.Views.{line_effect, HasRule}
use Rattle.machine.specs.Views.{place_of}
use Rattle.machine.specs.Standing.{IsReady, program_in, unit_in, registers_in, memory_in, config_of}
use Rattle.machine.proofs.Executions.{ready_at}

module _ (p : Program) (s : Run) (same : program_in s ≡ p) (q : Place) (l : ℕ) (at_line : q ≡ At l) (n : ℕ) where
  -- one line more
  pub one_more : (c d : Config) → Runs p c n (config_of q s) → Step (program_in s) (config_of (At l) s) d → Runs p c (n + 1) d
  one_more c d runs taken = rw add-one (on {e = d} runs (rw (at_line, ← same) taken))

  -- the line can be executed
  pub is_ready : (t : ℕ) → Accepted p → t < 7 → (m₀ : Memory) → Fitting p m₀ → Runs p (enter p (Module t) m₀) n (config_of q s) → IsReady s l
  is_ready t acc small m₀ fits runs =
      let h = ready_at p acc t small m₀ fits n (unit_in s) l (registers_in s) (memory_in s) (rw at_line at runs) in
      record {
        own = rw same h.0;
        rule = subst (λ (z : Program). HasRule (line_effect (flag_at z l) z.activation (decode (line_at z l)) (registers_in s) (memory_in s).bytes)) (sym same) h.1;
      }

whole_unless : (t : ℕ) (whole : Bool) → (whole ≡ false → sequential (Module t) ≡ true) → sequential (Module t) ≡ false → whole ≡ true
whole_unless t true k z = refl
whole_unless t false k z = absurd (both_ways (sequential (Module t)) z (k refl))

-- only a sequential module's pass can end before its end
pub whole_after : (p : Program) (t n : ℕ) (s : Run) (q : Place) (whole : Bool) → q ≡ Over whole → Stands p t n (config_of q s) → sequential (Module t) ≡ false → whole ≡ true
whole_after p t n s q whole is-over w =
    whole_unless t whole (subst (λ (x : Place). Routed p t n (place_of (unit_in s) x) (registers_in s).cells) is-over w.routed).1
