-- The gate program is accepted: each rule, line by line. Assumes nothing.
use Rattle.std.proofs.Common.{◌≡◌, ℕ, zero, suc, ◌*◌, ◌<◌, ◌≤◌, true, false, cond, ◌&&◌, ◌||◌, eqb, ◌⊎◌, List, [], ◌∷◌, length, get_or, replicate, ℤ, pos, negsuc, ◌+ℤ◌, None, sym, refl, ap, ◌∙◌, subst, inl, inr, arith, lit<, lit≤}
use Rattle.std.proofs.lemmas.Bool.{true≢false, false≢true, cases_lt}
use Rattle.std.proofs.lemmas.List.{get_or_past}
use Rattle.rules.specs.declared.line.Line.{Line}
use Rattle.rules.specs.Op.{is_begin, is_end, is_init, is_jump, is_exit}
use Rattle.rules.specs.Program.{no_line, line_at, op_at, init_module, clear_module, open_at, unit_of, first, end, sequential, flag_at, pushes, pops}
use Rattle.rules.specs.declared.unit.UnitId.{UnitId}
use Rattle.rules.specs.declared.unit.UnitId.TheVariants.{Module, Mechanism}
use Rattle.rules.specs.Image.{Section, data_section, mechanism_section, module_section, line_section, least_count, most_count}
use Rattle.rules.specs.Form.{records, Shaped, IsBadOperand, IsBadBegin, IsBadEnd, IsBadMechanism}
use Rattle.rules.specs.Route.{Arrives, at_entry, passed, change, depth, Initialises}
use Rattle.rules.specs.Verdict.{OffBalance, IsBadDepth, two_depths, off, MissesInit, misses, Breaks, by_unknown_line, by_bad_operand, by_bad_mechanism, by_bad_jump, by_bad_exit, by_bad_init, by_bad_depth, by_uninitialised}
use Rattle.theory.specs.Gate.{gate, GateAccepted}
use Rattle.theory.proofs.Orderly.{clash}

pub eleven : (P : ℕ → Type 0) → P 0 → P 1 → P 2 → P 3 → P 4 → P 5 → P 6 → P 7 → P 8 → P 9 → P 10 → (l : ℕ) → l < 11 → P l
eleven P a0 a1 a2 a3 a4 a5 a6 a7 a8 a9 a10 zero h = a0
eleven P a0 a1 a2 a3 a4 a5 a6 a7 a8 a9 a10 (suc zero) h = a1
eleven P a0 a1 a2 a3 a4 a5 a6 a7 a8 a9 a10 (suc (suc zero)) h = a2
eleven P a0 a1 a2 a3 a4 a5 a6 a7 a8 a9 a10 (suc (suc (suc zero))) h = a3
eleven P a0 a1 a2 a3 a4 a5 a6 a7 a8 a9 a10 (suc (suc (suc (suc zero)))) h = a4
eleven P a0 a1 a2 a3 a4 a5 a6 a7 a8 a9 a10 (suc (suc (suc (suc (suc zero))))) h = a5
eleven P a0 a1 a2 a3 a4 a5 a6 a7 a8 a9 a10 (suc (suc (suc (suc (suc (suc zero)))))) h = a6
eleven P a0 a1 a2 a3 a4 a5 a6 a7 a8 a9 a10 (suc (suc (suc (suc (suc (suc (suc zero))))))) h = a7
eleven P a0 a1 a2 a3 a4 a5 a6 a7 a8 a9 a10 (suc (suc (suc (suc (suc (suc (suc (suc zero)))))))) h = a8
eleven P a0 a1 a2 a3 a4 a5 a6 a7 a8 a9 a10 (suc (suc (suc (suc (suc (suc (suc (suc (suc zero))))))))) h = a9
eleven P a0 a1 a2 a3 a4 a5 a6 a7 a8 a9 a10 (suc (suc (suc (suc (suc (suc (suc (suc (suc (suc zero)))))))))) h = a10
eleven P a0 a1 a2 a3 a4 a5 a6 a7 a8 a9 a10 (suc (suc (suc (suc (suc (suc (suc (suc (suc (suc (suc n))))))))))) h = absurd (omega arith)

pub zeros_at : (n i : ℕ) → ◌≡◌ {A = ℕ} (get_or (replicate n 0) i 0) 0
zeros_at zero i = refl
zeros_at (suc n) zero = refl
zeros_at (suc n) (suc i) = zeros_at n i

pub shaped : Shaped gate
shaped = record { counts = in_range; bytes_small = small; activation_inside = one; all_lines = refl }
  where
    in_range : (s : Section) → (least_count s ≤ records gate s) × (records gate s ≤ most_count s)
    in_range data_section = (lit≤ tt, lit≤ tt)
    in_range mechanism_section = (lit≤ tt, lit≤ tt)
    in_range module_section = (lit≤ tt, lit≤ tt)
    in_range line_section = (lit≤ tt, lit≤ tt)

    small : (i : ℕ) → get_or gate.initial i 0 < 256
    small i = rw (zeros_at 18 i) (lit< tt)

    one : (k : ℕ) → k < length gate.activation → get_or gate.activation k 0 < 8 * length gate.initial
    one zero h = lit< tt
    one (suc k) h = absurd (omega arith)

no_unknown : (l : ℕ) → l < 11 → op_at gate l ≡ None → ⊥
no_unknown = eleven (λ l. op_at gate l ≡ None → ⊥) (λ e. clash ⊥ _ e) (λ e. clash ⊥ _ e) (λ e. clash ⊥ _ e) (λ e. clash ⊥ _ e) (λ e. clash ⊥ _ e) (λ e. clash ⊥ _ e) (λ e. clash ⊥ _ e) (λ e. clash ⊥ _ e) (λ e. clash ⊥ _ e) (λ e. clash ⊥ _ e) (λ e. clash ⊥ _ e)

no_astray : (l : ℕ) → l < 11 → IsBadOperand gate l → ⊥
no_astray = eleven (λ l. IsBadOperand gate l → ⊥) (λ e. e.1 (lit< tt)) (λ e. e.1 (lit< tt)) (λ e. e.1 (lit< tt)) (λ e. e.1 (lit< tt)) (λ e. e.1 refl) (λ e. e.1 (lit< tt)) (λ e. e.1 refl) (λ e. e.1 (lit< tt)) (λ e. e.1 (lit< tt)) (λ e. e.1 (lit< tt)) (λ e. e.1 (lit< tt))

no_begin_before : (j : ℕ) → j < 2 → is_begin (line_at gate j) ≡ true → ⊥
no_begin_before zero h e = false≢true e
no_begin_before (suc zero) h e = false≢true e
no_begin_before (suc (suc j)) h e = absurd (omega arith)

abbrev IsBadPair : ℕ → Type 0
IsBadPair l = IsBadBegin gate l ⊎ IsBadEnd gate l

plain_pair : (l : ℕ) → is_begin (line_at gate l) ≡ false → is_end (line_at gate l) ≡ false → IsBadPair l → ⊥
plain_pair l x y (inl b) = false≢true (sym x ∙ b.0)
plain_pair l x y (inr e) = false≢true (sym y ∙ e.0)

begin_pair : IsBadPair 2 → ⊥
begin_pair (inl (e, inl n)) = n refl
begin_pair (inl (e, inr (inl n))) = n refl
begin_pair (inl (e, inr (inr (j, h, b)))) = no_begin_before j h b.1
begin_pair (inr (e, n)) = false≢true e

end_pair : IsBadPair 8 → ⊥
end_pair (inl (e, n)) = false≢true e
end_pair (inr (e, inl n)) = n refl
end_pair (inr (e, inr n)) = n refl

no_bad_pair : (l : ℕ) → l < 11 → IsBadPair l → ⊥
no_bad_pair = eleven (λ l. IsBadPair l → ⊥) (plain_pair 0 refl refl) (plain_pair 1 refl refl) begin_pair (plain_pair 3 refl refl) (plain_pair 4 refl refl) (plain_pair 5 refl refl) (plain_pair 6 refl refl) (plain_pair 7 refl refl) end_pair (plain_pair 9 refl refl) (plain_pair 10 refl refl)

no_unpaired : (l : ℕ) → IsBadMechanism gate l → ⊥
no_unpaired l (inl (h, b)) = no_bad_pair l h b
no_unpaired l (inr (e, inl n)) = n (ap (open_at gate) e)
no_unpaired l (inr (e, inr (zero, h, n))) = n 2 (lit< tt, refl, refl)
no_unpaired l (inr (e, inr (suc k, h, n))) = absurd (omega arith)

no_misled : (l : ℕ) → l < 11 → is_jump (line_at gate l) ≡ true → ⊥
no_misled = eleven (λ l. is_jump (line_at gate l) ≡ true → ⊥) false≢true false≢true false≢true false≢true false≢true false≢true false≢true false≢true false≢true false≢true false≢true

no_stray_exit : (l : ℕ) → l < 11 → is_exit (line_at gate l) ≡ true → sequential (unit_of gate l) ≡ false → ⊥
no_stray_exit = eleven (λ l. is_exit (line_at gate l) ≡ true → sequential (unit_of gate l) ≡ false → ⊥) (λ e s. false≢true e) (λ e s. false≢true e) (λ e s. false≢true e) (λ e s. true≢false s) (λ e s. true≢false s) (λ e s. true≢false s) (λ e s. true≢false s) (λ e s. true≢false s) (λ e s. true≢false s) (λ e s. false≢true e) (λ e s. false≢true e)

no_stray_init : (l : ℕ) → l < 11 → is_init (line_at gate l) ≡ true → (unit_of gate l ≡ Module init_module → ⊥) → (unit_of gate l ≡ Module clear_module → ⊥) → ⊥
no_stray_init = eleven (λ l. is_init (line_at gate l) ≡ true → (unit_of gate l ≡ Module init_module → ⊥) → (unit_of gate l ≡ Module clear_module → ⊥) → ⊥) (λ e a b. false≢true e) (λ e a b. false≢true e) (λ e a b. false≢true e) (λ e a b. false≢true e) (λ e a b. false≢true e) (λ e a b. false≢true e) (λ e a b. false≢true e) (λ e a b. false≢true e) (λ e a b. false≢true e) (λ e a b. a refl) (λ e a b. b refl)

-- nothing is ever stacked
no_change : (l : ℕ) → (l < 11) ⊎ (11 ≤ l) → change gate l ≡ pos 0
no_change l (inl h) = eleven (λ l. change gate l ≡ pos 0) refl refl refl refl refl refl refl refl refl refl refl l h
no_change l (inr h) = ap (λ (x : Line). cond (eqb x.code 1 && flag_at gate l) (pos 1) (cond (eqb x.mode 2 && (eqb x.code 2 || eqb x.code 3 || eqb x.code 4)) (negsuc 0) (pos 0))) (get_or_past gate.lines l no_line h)

pub no_depth : (a : List ℕ) → depth gate a ≡ pos 0
no_depth [] = refl
no_depth (l ∷ a) = ap (λ (d : ℤ). d +ℤ change gate l) (no_depth a) ∙ ap (λ (d : ℤ). pos 0 +ℤ d) (no_change l (cases_lt l 11))

no_pops : (l : ℕ) → l < 11 → pops gate l ≡ false
no_pops = eleven (λ l. pops gate l ≡ false) refl refl refl refl refl refl refl refl refl refl refl

no_pushes : (l : ℕ) → l < 11 → pushes gate l ≡ false
no_pushes = eleven (λ l. pushes gate l ≡ false) refl refl refl refl refl refl refl refl refl refl refl

no_off : (u : UnitId) (l : ℕ) (d : ℤ) → d ≡ pos 0 → OffBalance gate u l d → ⊥
no_off u l d z (inl (o, e, q)) = false≢true (sym (no_pops l o.within) ∙ e)
no_off u l d z (inr (inl (o, e, q))) = false≢true (sym (no_pushes l o.within) ∙ e)
no_off u l d z (inr (inr (inl (o, e, n)))) = n z
no_off u l d z (inr (inr (inr (e, n)))) = n z

no_unbalanced : (l : ℕ) → IsBadDepth gate l → ⊥
no_unbalanced l (two_depths {a = a} {b = b} h x y n) = n (no_depth a ∙ sym (no_depth b))
no_unbalanced l (off {u = u} {a = a} h x o) = no_off u l (depth gate a) (no_depth a) o

pub apart_module : (a b : ℕ) → (a ≡ b → ⊥) → Module a ≡ Module b → ⊥
apart_module a b n e = n (cc e)

pub apart_mechanism : (k b : ℕ) → Mechanism k ≡ Module b → ⊥
apart_mechanism k b e = let z : ◌≡◌ {A = ℕ} 0 1 = cc e in omega arith

init_own : (l : ℕ) → l < 11 → unit_of gate l ≡ Module init_module → l ≡ 9
init_own = eleven (λ l. unit_of gate l ≡ Module init_module → l ≡ 9) (λ e. absurd (apart_module 3 4 (λ z. omega arith) e)) (λ e. absurd (apart_module 3 4 (λ z. omega arith) e)) (λ e. absurd (apart_module 3 4 (λ z. omega arith) e)) (λ e. absurd (apart_mechanism 0 4 e)) (λ e. absurd (apart_mechanism 0 4 e)) (λ e. absurd (apart_mechanism 0 4 e)) (λ e. absurd (apart_mechanism 0 4 e)) (λ e. absurd (apart_mechanism 0 4 e)) (λ e. absurd (apart_mechanism 0 4 e)) (λ e. refl) (λ e. absurd (apart_module 5 4 (λ z. omega arith) e))

clear_own : (l : ℕ) → l < 11 → unit_of gate l ≡ Module clear_module → l ≡ 10
clear_own = eleven (λ l. unit_of gate l ≡ Module clear_module → l ≡ 10) (λ e. absurd (apart_module 3 5 (λ z. omega arith) e)) (λ e. absurd (apart_module 3 5 (λ z. omega arith) e)) (λ e. absurd (apart_module 3 5 (λ z. omega arith) e)) (λ e. absurd (apart_mechanism 0 5 e)) (λ e. absurd (apart_mechanism 0 5 e)) (λ e. absurd (apart_mechanism 0 5 e)) (λ e. absurd (apart_mechanism 0 5 e)) (λ e. absurd (apart_mechanism 0 5 e)) (λ e. absurd (apart_mechanism 0 5 e)) (λ e. absurd (apart_module 4 5 (λ z. omega arith) e)) (λ e. refl)

-- a module of the one line x, which initialises mechanism 0
one_line : (m x : ℕ) → ((l : ℕ) → l < 11 → unit_of gate l ≡ Module m → l ≡ x) → first gate (Module m) ≡ x → is_exit (line_at gate x) ≡ false → is_init (line_at gate x) ≡ true → (line_at gate x).operand ≡ 0 → {a : List ℕ} {l : ℕ} → Arrives gate (Module m) a l → (l ≡ x → ⊥) → Initialises gate 0 a
one_line m x own f e i q (at_entry (inl r)) n = absurd (n (r ∙ f))
one_line m x own f e i q (at_entry (inr (y, o, z, r))) n = absurd (false≢true (sym e ∙ subst (λ (w : ℕ). is_exit (line_at gate w) ≡ true) (own y o.within o.part) z))
one_line m x own f e i q (passed {l = y} a o w) n =
    let s : x ≡ y = sym (own y o.within o.part) in
    inl (subst (λ (z : ℕ). is_init (line_at gate z) ≡ true) s i, subst (λ (z : ℕ). (line_at gate z).operand ≡ 0) s q)

no_uninitialised : (m : ℕ) → (m ≡ init_module) ⊎ (m ≡ clear_module) → MissesInit gate m → ⊥
no_uninitialised m h (misses {a = a} {k = suc k} r b n) = absurd (omega arith)
no_uninitialised m (inl e) (misses {a = a} {k = zero} r b n) = n (one_line init_module 9 init_own refl refl refl refl (subst (λ (x : ℕ). Arrives gate (Module x) a (end gate (Module x))) e r) (λ z. omega arith))
no_uninitialised m (inr e) (misses {a = a} {k = zero} r b n) = n (one_line clear_module 10 clear_own refl refl refl refl (subst (λ (x : ℕ). Arrives gate (Module x) a (end gate (Module x))) e r) (λ z. omega arith))

unbroken : (r l : ℕ) → Breaks gate r l → ⊥
unbroken r l (by_unknown_line e h) = no_unknown l h.0 h.1
unbroken r l (by_bad_operand e h) = no_astray l h.0 h
unbroken r l (by_bad_mechanism e h) = no_unpaired l h
unbroken r l (by_bad_jump e h) = no_misled l h.0 h.1
unbroken r l (by_bad_exit e h) = no_stray_exit l h.0 h.1 h.2
unbroken r l (by_bad_init e h) = no_stray_init l h.0 h.1 h.2 h.3
unbroken r l (by_bad_depth e h) = no_unbalanced l h
unbroken r l (by_uninitialised e q h) = no_uninitialised l q h

pub gate_accepted : GateAccepted
gate_accepted = record { shaped = shaped; unbroken = unbroken }
