-- A memory that fits an accepted program: as its type keeps it and as the rules say it, and the room that it has. Assumes nothing.
use Rattle.std.proofs.Common.{◌≡◌, ℕ, zero, suc, ◌+◌, ◌≤◌, Bool, true, false, cond, ◌||◌, eqb, ◌⊎◌, vec_len, sym, refl, ap, ◌∙◌, subst, inl, inr, ⊎_elim, arith}
use denote.Ref.{Bor}
use Rattle.std.proofs.lemmas.Bool.{cases_eq, eqb-true}
use Rattle.rules.specs.declared.line.Line.{Line}
use Rattle.rules.specs.declared.unit.UnitId.{UnitId}
use Rattle.rules.specs.Op.{is_begin, is_exit}
use Rattle.rules.specs.Program.{Program, Own, line_at, first, after, end_line}
use Rattle.rules.specs.Image.{data_section}
use Rattle.rules.specs.Route.{Entry}
use Rattle.rules.specs.Run.{point}
use Rattle.theory.specs.Standing.{Fitting}
use Rattle.theory.proofs.Orderly.{sure, owned}
use Rattle.verdict.proofs.Kept.{accepted}
use Rattle.verdict.specs.declared.accepted.Accepted.{Accepted}
use Rattle.machine.specs.Views.{program_of, memory_of}
use Rattle.machine.specs.declared.memory.Memory.{Memory}
use Rattle.session.specs.declared.fitted.Fitted.{Fitted}
use Rattle.session.specs.Points.{PointsStand}
use Rattle.session.specs.States.{program_at, memory_at}

exits_begin : (x : Line) (b : Bool) → is_begin x ≡ b → is_exit x ≡ true → b ≡ false
exits_begin x false e h = refl
exits_begin x true e h = absurd (let z : true ≡ false = sym h ∙ ap (λ (c : ℕ). eqb c 11 || (eqb c 12 || eqb c 13)) (eqb-true x.code 22 e) in let y : ◌≡◌ {A = ℕ} 0 1 = cc in omega arith)

module _ (p : Program) where
  -- after an EX-type line comes the next one
  exit_after : (l : ℕ) → is_exit (line_at p l) ≡ true → after p l ≡ l + 1
  exit_after l h = ap (λ (b : Bool). cond b (end_line p (line_at p l).operand + 1) (l + 1)) (exits_begin (line_at p l) (is_begin (line_at p l)) refl h)

  module _ (u : UnitId) where
    past_exit : (e : ℕ) → Own p u e ⊎ (Own p u e → ⊥) → (b : Bool) → is_exit (line_at p e) ≡ b → (suc e ≡ first p u → ⊥) → Entry p u (suc e) ⊎ (Entry p u (suc e) → ⊥)
    past_exit e (inl o) true x n = inl (inr (e, o, x, (let q = exit_after e x in omega arith)))
    past_exit e (inl o) false x n = inr (λ h. ⊎_elim n (λ k. (let q = exit_after k.0 k.2 in let s : k.0 ≡ e = (let t = k.3 in omega arith) in let z : true ≡ false = sym k.2 ∙ ap (λ (j : ℕ). is_exit (line_at p j)) s ∙ x in let y : ◌≡◌ {A = ℕ} 0 1 = cc in omega arith)) h)
    past_exit e (inr o) b x n = inr (λ h. ⊎_elim n (λ k. (let q = exit_after k.0 k.2 in let s : k.0 ≡ e = (let t = k.3 in omega arith) in o (subst (Own p u) s k.1))) h)

    -- whether a line is where a route begins is decided
    entry_decided : (l : ℕ) → Entry p u l ⊎ (Entry p u l → ⊥)
    entry_decided l = elim (cases_eq l (first p u)) [ inl e ↦ inl (inl e) | inr n ↦ go l n ]
      where
        go : (k : ℕ) → (k ≡ first p u → ⊥) → Entry p u k ⊎ (Entry p u k → ⊥)
        go zero n = inr (λ h. ⊎_elim n (λ k. (let q = exit_after k.0 k.2 in let t = k.3 in omega arith)) h)
        go (suc e) n = past_exit e (owned p u e) (is_exit (line_at p e)) refl n

-- what the type keeps of the memory is that it fits
pub fits : (f : Fitted) → Fitting (program_at f) (memory_at f)
fits f = record {
  bytes_fit = sym f.memory.bytes.ok.0 ∙ f.bytes_fit ∙ f.program.now.formed.layout.program.initial.ok.0;
  points_fit = sym f.memory.points.ok.0 ∙ f.points_fit ∙ f.program.now.formed.layout.program.activation.ok.0;
  pointed = λ u r q. sure (entry_decided (program_at f) u (point (program_at f) (memory_at f) u)) (f.pointed u r q);
}

-- the data have room for the inputs and the outputs
pub room : (f : Fitted) → 17 ≤ vec_len f.memory.bytes
room f =
    let d = ((accepted f.program.now).shaped.counts data_section).0 in
    let e = f.bytes_fit in
    omega (arith, f.program.now.formed.layout.program.initial.ok.0)

-- and a memory that fits is kept so
pub kept : (a : Accepted) (m : Memory) → Fitting (program_of a) (memory_of m) → record { bytes_fit : vec_len m.bytes ≡ vec_len a.formed.layout.program.initial; points_fit : vec_len m.points ≡ vec_len a.formed.layout.program.activation; pointed : PointsStand (program_of a) (memory_of m) }
kept a m f = record {
  bytes_fit = m.bytes.ok.0 ∙ f.bytes_fit ∙ sym a.formed.layout.program.initial.ok.0;
  points_fit = m.points.ok.0 ∙ f.points_fit ∙ sym a.formed.layout.program.activation.ok.0;
  pointed = λ u r q n. n (f.pointed u r q);
}

-- the same accepted program is the same program
pub same_program : {a b : Bor Accepted} → a ≡ b → program_of a.now ≡ program_of b.now
same_program e = ap (λ (x : Bor Accepted). program_of x.now) e
