-- The texts of INPUT, worked through: labels on their lines give the depths of their routes. Assumes nothing.
use Rattle.std.proofs.Common.{◌≡◌, ℕ, zero, suc, ◌+◌, ◌<◌, ◌≤◌, true, false, ◌⊎◌, List, [], ◌∷◌, length, get_or, replicate, ℤ, pos, ◌+ℤ◌, ◌≤ℤ◌, None, sym, refl, ap, ◌∙◌, subst, inl, inr, arith, lit<, lit≤}
use Rattle.std.proofs.lemmas.Int.{ints}
use Rattle.std.proofs.lemmas.Bool.{false≢true, cases_eq}
use Rattle.rules.specs.declared.op.Mnemonic.TheVariants as name
use Rattle.rules.specs.Op.{is_begin, is_end, is_init, is_jump, is_exit}
use Rattle.rules.specs.Program.{Program, Own, Real, line_at, op_at, open_at, unit_of, first, end, after, pushes, pops, input_module, block_init, block_done, main_module}
use Rattle.rules.specs.declared.unit.UnitId.{UnitId}
use Rattle.rules.specs.declared.unit.UnitId.TheVariants.{Module, Mechanism}
use Rattle.rules.specs.Image.{Section, data_section, mechanism_section, module_section, line_section, least_count, most_count}
use Rattle.rules.specs.Form.{records, Shaped, Reaches, Lands}
use Rattle.rules.specs.Route.{Way, Entry, Arrives, at_entry, passed, to_end, none, line, Takes, BlockTakes, ScanTakes, change, depth}
use Rattle.rules.specs.Verdict.{OffBalance, IsBadDepth, two_depths, off, MissesInit, misses, Breaks, by_unknown_line, by_bad_operand, by_bad_mechanism, by_bad_jump, by_bad_exit, by_bad_init, by_bad_depth, by_uninitialised, TextRefused, Accepted, DepthOf}
use Rattle.theory.specs.Worked.{row}
use Rattle.theory.specs.Texts.{in_input, nine, NineAccepted, TenRefused, LeftRefused, MeetingRefused}
use Rattle.theory.proofs.Orderly.{clash, same_part, orderly}
use Rattle.theory.proofs.Ends.{takes_bound}
use Rattle.theory.proofs.Ruled.{formed}
use Rattle.theory.proofs.Accepted.{zeros_at}

-- LINE BY LINE

-- P holds below n
abbrev Each : (ℕ → Type 0) → ℕ → Type 0
Each P zero = Unit {0}
Each P (suc n) = Each P n × P n

each : (P : ℕ → Type 0) (n : ℕ) → Each P n → (l : ℕ) → l < n → P l
each P zero h l g = absurd (omega arith)
each P (suc n) h l g = go (cases_eq l n) (λ k. each P n h.0 l k)
  where
    go : (l ≡ n) ⊎ (l ≡ n → ⊥) → (l < n → P l) → P l
    go (inl e) more = subst P (sym e) h.1
    go (inr k) more = more (omega arith)

-- a line of INPUT that breaks no rule by itself and is no line of a mechanism or of a sequential unit
abbrev Fine : Program → ℕ → Type 0
Fine p l = ((op_at p l ≡ None → ⊥) × Reaches p (line_at p l) (op_at p l) × (is_begin (line_at p l) ≡ false)) × (is_end (line_at p l) ≡ false) × (is_init (line_at p l) ≡ false) × (is_exit (line_at p l) ≡ false) × (unit_of p l ≡ Module input_module)

-- where a line can lead: to the next, or, where it jumps, to a later line or the end of INPUT
abbrev Leads : Program → ℕ → Type 0
Leads p l = (after p l ≡ suc l) × ((is_jump (line_at p l) ≡ false) ⊎ ((l < (line_at p l).operand) × ((line_at p l).operand < length p.lines) × (unit_of p (line_at p l).operand ≡ Module input_module)))

-- what a program of INPUT lines has
record Inputs (p : Program) : Type 0 where
  shaped : Shaped p
  no_mechanism : length p.activation ≡ 0
  shut : (l : ℕ) → l ≡ end p (Module main_module) → open_at p l ≡ None
  input_first : first p (Module input_module) ≡ 0
  input_end : end p (Module input_module) ≡ length p.lines
  fine : (l : ℕ) → l < length p.lines → Fine p l
  leads : (l : ℕ) → l < length p.lines → Leads p l

module _ (p : Program) (inp : Inputs p) where
  -- every line is INPUT's
  only_input : {u : UnitId} {l : ℕ} → Own p u l → u ≡ Module input_module
  only_input {u} {l} o = sym o.part ∙ (inp.fine l o.within).4

  lands : (l : ℕ) → l < length p.lines → is_jump (line_at p l) ≡ true → ((l < (line_at p l).operand) × Lands p (line_at p l).operand (unit_of p l) → ⊥) → ⊥
  lands l h j n = go (inp.leads l h).1
    where
      go : (is_jump (line_at p l) ≡ false) ⊎ ((l < (line_at p l).operand) × ((line_at p l).operand < length p.lines) × (unit_of p (line_at p l).operand ≡ Module input_module)) → ⊥
      go (inl f) = false≢true (sym f ∙ j)
      go (inr (a, b, c)) = n (a, subst (λ (u : UnitId). Lands p (line_at p l).operand u) (sym (inp.fine l h).4) (inl (record { within = b; part = c })))

  -- no rule below that of the depths is broken
  low_unbroken : (r l : ℕ) → Breaks p r l → (r ≡ 13) ⊎ (r ≡ 14)
  low_unbroken r l (by_unknown_line e h) = absurd ((inp.fine l h.0).0.0 h.1)
  low_unbroken r l (by_bad_operand e h) = absurd (h.1 (inp.fine l h.0).0.1)
  low_unbroken r l (by_bad_mechanism e (inl (h, inl b))) = absurd (false≢true (sym (inp.fine l h).0.2 ∙ b.0))
  low_unbroken r l (by_bad_mechanism e (inl (h, inr b))) = absurd (false≢true (sym (inp.fine l h).1 ∙ b.0))
  low_unbroken r l (by_bad_mechanism e (inr (q, inl n))) = absurd (n (inp.shut l q))
  low_unbroken r l (by_bad_mechanism e (inr (q, inr (k, h, n)))) = absurd (let z = inp.no_mechanism in omega arith)
  low_unbroken r l (by_bad_jump e h) = absurd (lands l h.0 h.1 h.2)
  low_unbroken r l (by_bad_exit e h) = absurd (false≢true (sym (inp.fine l h.0).3 ∙ h.1))
  low_unbroken r l (by_bad_init e h) = absurd (false≢true (sym (inp.fine l h.0).2 ∙ h.1))
  low_unbroken r l (by_bad_depth e h) = inl e
  low_unbroken r l (by_uninitialised e q h) = inr e

  initialised : (m : ℕ) → MissesInit p m → ⊥
  initialised m (misses a h n) = let z = inp.no_mechanism in omega arith

  -- LABELS BELOW A LINE

  module _ (L : ℕ) (label : ℕ → ℤ) (start : label 0 ≡ pos 0) (next : (l : ℕ) → l < length p.lines → suc l < L → label (suc l) ≡ label l +ℤ change p l) (jumps : (l : ℕ) → l < length p.lines → is_jump (line_at p l) ≡ true → (line_at p l).operand < L → label (line_at p l).operand ≡ label l +ℤ change p l) where
    by_entry : (l : ℕ) → Entry p (Module input_module) l → label l ≡ pos 0
    by_entry l (inl e) = ap label (e ∙ inp.input_first) ∙ start
    by_entry l (inr (x, o, z, e)) = absurd (false≢true (sym (inp.fine x o.within).3 ∙ z))

    rises : (l m : ℕ) → l < length p.lines → Way p l m → l < m
    rises l m h (inl (x, e)) = let q = (inp.leads l h).0 in omega arith
    rises l m h (inr (j, e)) = go (inp.leads l h).1
      where
        go : (is_jump (line_at p l) ≡ false) ⊎ ((l < (line_at p l).operand) × ((line_at p l).operand < length p.lines) × (unit_of p (line_at p l).operand ≡ Module input_module)) → l < m
        go (inl f) = absurd (false≢true (sym f ∙ j))
        go (inr (a, b, c)) = omega arith

    by_way : (l m : ℕ) → l < length p.lines → m < L → Way p l m → label m ≡ label l +ℤ change p l
    by_way l m h g (inl (x, e)) = let q : m ≡ suc l = e ∙ (inp.leads l h).0 in ap label q ∙ next l h (omega arith)
    by_way l m h g (inr (j, e)) = ap label e ∙ jumps l h j (omega arith)

    labelled : {path : List ℕ} {l : ℕ} → Arrives p (Module input_module) path l → l < L → depth p path ≡ label l
    labelled (at_entry {m = m} e) g = sym (by_entry m e)
    labelled (passed {l = l} {m = m} a o w) g =
        let r = rises l m o.within w in
        ap (λ (d : ℤ). d +ℤ change p l) (labelled a (omega arith)) ∙ sym (by_way l m o.within g w)

    -- a depth that serves at a line
    abbrev Serves : ℕ → Type 0
    Serves l = ((pops p l ≡ false) ⊎ (label l ≡ pos 0 → ⊥)) × ((pushes p l ≡ false) ⊎ (label l ≡ pos 8 → ⊥)) × ((l ≡ end p (Module input_module) → ⊥) ⊎ (label l ≡ pos 0))

    off_input : (l : ℕ) (d : ℤ) → d ≡ label l → Serves l → OffBalance p (Module input_module) l d → ⊥
    off_input l d q (inl x, s, t) (inl (o, e, z)) = false≢true (sym x ∙ e)
    off_input l d q (inr x, s, t) (inl (o, e, z)) = x (sym q ∙ z)
    off_input l d q (s, inl x, t) (inr (inl (o, e, z))) = false≢true (sym x ∙ e)
    off_input l d q (s, inr x, t) (inr (inl (o, e, z))) = x (sym q ∙ z)
    off_input l d q s (inr (inr (inl (o, inl e, n)))) = false≢true (sym (inp.fine l o.within).3 ∙ e)
    off_input l d q s (inr (inr (inl (o, inr (inl e), n)))) = false≢true (sym (inp.fine l o.within).0.2 ∙ e)
    off_input l d q s (inr (inr (inl (o, inr (inr e), n)))) = false≢true (sym (inp.fine l o.within).1 ∙ e)
    off_input l d q (s, t, inl x) (inr (inr (inr (e, n)))) = x e
    off_input l d q (s, t, inr x) (inr (inr (inr (e, n)))) = n (q ∙ x)

    flat_elsewhere : {u : UnitId} {path : List ℕ} {l : ℕ} → (u ≡ Module input_module → ⊥) → Arrives p u path l → depth p path ≡ pos 0
    flat_elsewhere k (at_entry e) = refl
    flat_elsewhere k (passed a o w) = absurd (k (only_input o))

    off_elsewhere : (u : UnitId) (l : ℕ) (d : ℤ) → (u ≡ Module input_module → ⊥) → d ≡ pos 0 → OffBalance p u l d → ⊥
    off_elsewhere u l d k z (inl (o, e, q)) = k (only_input o)
    off_elsewhere u l d k z (inr (inl (o, e, q))) = k (only_input o)
    off_elsewhere u l d k z (inr (inr (inl (o, e, n)))) = k (only_input o)
    off_elsewhere u l d k z (inr (inr (inr (e, n)))) = n z

    depth_serves : (l : ℕ) → l < L → Serves l → IsBadDepth p l → ⊥
    depth_serves l g s (two_depths {u = u} {a = a} {b = b} h x y n) = go (same_part u (Module input_module))
      where
        go : (u ≡ Module input_module) ⊎ (u ≡ Module input_module → ⊥) → ⊥
        go (inl e) = n (labelled (subst (λ (v : UnitId). Arrives p v a l) e x) g ∙ sym (labelled (subst (λ (v : UnitId). Arrives p v b l) e y) g))
        go (inr k) = n (flat_elsewhere k x ∙ sym (flat_elsewhere k y))
    depth_serves l g s (off {u = u} {a = a} h x o) = go (same_part u (Module input_module))
      where
        go : (u ≡ Module input_module) ⊎ (u ≡ Module input_module → ⊥) → ⊥
        go (inl e) = off_input l (depth p a) (labelled (subst (λ (v : UnitId). Arrives p v a l) e x) g) s (subst (λ (v : UnitId). OffBalance p v l (depth p a)) e o)
        go (inr k) = off_elsewhere u l (depth p a) k (flat_elsewhere k x) o

    -- the refusal at L, where all before it serves
    refusal : IsBadDepth p L → ((l : ℕ) → l < L → Serves l) → TextRefused p 13 L
    refusal b s = record { broken = by_bad_depth refl b; lowest = lower; foremost = before }
      where
        lower : (r l : ℕ) → r < 13 → Breaks p r l → ⊥
        lower r l h x = elim (low_unbroken r l x) [ inl e ↦ omega arith | inr e ↦ omega arith ]

        before : (l : ℕ) → l < L → Breaks p 13 l → ⊥
        before l g (by_unknown_line e h) = omega arith
        before l g (by_bad_operand e h) = omega arith
        before l g (by_bad_mechanism e h) = omega arith
        before l g (by_bad_jump e h) = omega arith
        before l g (by_bad_exit e h) = omega arith
        before l g (by_bad_init e h) = omega arith
        before l g (by_bad_depth e h) = depth_serves l g (s l g) h
        before l g (by_uninitialised e q h) = omega arith

zeros_small : (i : ℕ) → get_or (replicate 17 0) i 0 < 256
zeros_small i = rw (zeros_at 17 i) (lit< tt)

own : (p : Program) (l : ℕ) → l < length p.lines → unit_of p l ≡ Module input_module → Own p (Module input_module) l
own p l h e = record { within = h; part = e }

abbrev labels : List ℕ → ℕ → ℤ
labels ns l = pos (get_or ns l 0)

apart : {a b : ℕ} → (a ≡ b → ⊥) → pos a ≡ pos b → ⊥
apart n e = n (cc e)

-- TEN

abbrev ten : Program
ten = in_input (replicate 10 (row name.Ldr 0 0))

ten_inputs : Inputs ten
ten_inputs = record { shaped = record { counts = in_range; bytes_small = zeros_small; activation_inside = λ k h. absurd (omega arith); all_lines = refl }; no_mechanism = refl; shut = λ l e. ap (open_at ten) e; input_first = refl; input_end = refl; fine = each (Fine ten) 10 ((((((((((tt, ((λ e. clash ⊥ _ e, lit< tt, refl), refl, refl, refl, refl)), ((λ e. clash ⊥ _ e, lit< tt, refl), refl, refl, refl, refl)), ((λ e. clash ⊥ _ e, lit< tt, refl), refl, refl, refl, refl)), ((λ e. clash ⊥ _ e, lit< tt, refl), refl, refl, refl, refl)), ((λ e. clash ⊥ _ e, lit< tt, refl), refl, refl, refl, refl)), ((λ e. clash ⊥ _ e, lit< tt, refl), refl, refl, refl, refl)), ((λ e. clash ⊥ _ e, lit< tt, refl), refl, refl, refl, refl)), ((λ e. clash ⊥ _ e, lit< tt, refl), refl, refl, refl, refl)), ((λ e. clash ⊥ _ e, lit< tt, refl), refl, refl, refl, refl)), ((λ e. clash ⊥ _ e, lit< tt, refl), refl, refl, refl, refl)); leads = each (Leads ten) 10 ((((((((((tt, (refl, inl refl)), (refl, inl refl)), (refl, inl refl)), (refl, inl refl)), (refl, inl refl)), (refl, inl refl)), (refl, inl refl)), (refl, inl refl)), (refl, inl refl)), (refl, inl refl)) }
  where
    in_range : (s : Section) → (least_count s ≤ records ten s) × (records ten s ≤ most_count s)
    in_range data_section = (lit≤ tt, lit≤ tt)
    in_range mechanism_section = (lit≤ tt, lit≤ tt)
    in_range module_section = (lit≤ tt, lit≤ tt)
    in_range line_section = (lit≤ tt, lit≤ tt)

abbrev ten_label : ℕ → ℤ
ten_label = labels (0 ∷ 0 ∷ 1 ∷ 2 ∷ 3 ∷ 4 ∷ 5 ∷ 6 ∷ 7 ∷ 8 ∷ 9 ∷ [])

ten_next : (l : ℕ) → l < 10 → suc l < 9 → ten_label (suc l) ≡ ten_label l +ℤ change ten l
ten_next = each (λ l. suc l < 9 → ten_label (suc l) ≡ ten_label l +ℤ change ten l) 10 ((((((((((tt, (λ h. refl)), (λ h. refl)), (λ h. refl)), (λ h. refl)), (λ h. refl)), (λ h. refl)), (λ h. refl)), (λ h. refl)), (λ h. absurd (omega arith))), (λ h. absurd (omega arith)))

ten_jumps : (l : ℕ) → l < 10 → is_jump (line_at ten l) ≡ true → (line_at ten l).operand < 9 → ten_label (line_at ten l).operand ≡ ten_label l +ℤ change ten l
ten_jumps = each (λ l. is_jump (line_at ten l) ≡ true → (line_at ten l).operand < 9 → ten_label (line_at ten l).operand ≡ ten_label l +ℤ change ten l) 10 ((((((((((tt, (λ j h. absurd (false≢true j))), (λ j h. absurd (false≢true j))), (λ j h. absurd (false≢true j))), (λ j h. absurd (false≢true j))), (λ j h. absurd (false≢true j))), (λ j h. absurd (false≢true j))), (λ j h. absurd (false≢true j))), (λ j h. absurd (false≢true j))), (λ j h. absurd (false≢true j))), (λ j h. absurd (false≢true j)))

ten_serves : (l : ℕ) → l < 9 → Serves ten ten_inputs 9 ten_label refl ten_next ten_jumps l
ten_serves = each (Serves ten ten_inputs 9 ten_label refl ten_next ten_jumps) 9 (((((((((tt, (inl refl, inl refl, inl (λ z. omega arith))), (inl refl, inr (apart (λ z. omega arith)), inl (λ z. omega arith))), (inl refl, inr (apart (λ z. omega arith)), inl (λ z. omega arith))), (inl refl, inr (apart (λ z. omega arith)), inl (λ z. omega arith))), (inl refl, inr (apart (λ z. omega arith)), inl (λ z. omega arith))), (inl refl, inr (apart (λ z. omega arith)), inl (λ z. omega arith))), (inl refl, inr (apart (λ z. omega arith)), inl (λ z. omega arith))), (inl refl, inr (apart (λ z. omega arith)), inl (λ z. omega arith))), (inl refl, inr (apart (λ z. omega arith)), inl (λ z. omega arith)))

pub ten_refused : TenRefused
ten_refused = refusal ten ten_inputs 9 ten_label refl ten_next ten_jumps (off {u = Module input_module} (lit< tt) (passed (passed (passed (passed (passed (passed (passed (passed (passed (at_entry {m = 0} (inl refl)) (own ten 0 (lit< tt) refl) (inl (refl, refl))) (own ten 1 (lit< tt) refl) (inl (refl, refl))) (own ten 2 (lit< tt) refl) (inl (refl, refl))) (own ten 3 (lit< tt) refl) (inl (refl, refl))) (own ten 4 (lit< tt) refl) (inl (refl, refl))) (own ten 5 (lit< tt) refl) (inl (refl, refl))) (own ten 6 (lit< tt) refl) (inl (refl, refl))) (own ten 7 (lit< tt) refl) (inl (refl, refl))) (own ten 8 (lit< tt) refl) (inl (refl, refl))) (inr (inl (own ten 9 (lit< tt) refl, refl, refl)))) ten_serves

-- LEFT

abbrev left : Program
left = in_input (row name.Ldr 0 0 ∷ row name.Ldr 0 0 ∷ row name.Wr 0 64 ∷ [])

left_inputs : Inputs left
left_inputs = record { shaped = record { counts = in_range; bytes_small = zeros_small; activation_inside = λ k h. absurd (omega arith); all_lines = refl }; no_mechanism = refl; shut = λ l e. ap (open_at left) e; input_first = refl; input_end = refl; fine = each (Fine left) 3 (((tt, ((λ e. clash ⊥ _ e, lit< tt, refl), refl, refl, refl, refl)), ((λ e. clash ⊥ _ e, lit< tt, refl), refl, refl, refl, refl)), ((λ e. clash ⊥ _ e, lit< tt, refl), refl, refl, refl, refl)); leads = each (Leads left) 3 (((tt, (refl, inl refl)), (refl, inl refl)), (refl, inl refl)) }
  where
    in_range : (s : Section) → (least_count s ≤ records left s) × (records left s ≤ most_count s)
    in_range data_section = (lit≤ tt, lit≤ tt)
    in_range mechanism_section = (lit≤ tt, lit≤ tt)
    in_range module_section = (lit≤ tt, lit≤ tt)
    in_range line_section = (lit≤ tt, lit≤ tt)

abbrev left_label : ℕ → ℤ
left_label = labels (0 ∷ 0 ∷ 1 ∷ 1 ∷ [])

left_next : (l : ℕ) → l < 3 → suc l < 3 → left_label (suc l) ≡ left_label l +ℤ change left l
left_next = each (λ l. suc l < 3 → left_label (suc l) ≡ left_label l +ℤ change left l) 3 (((tt, (λ h. refl)), (λ h. refl)), (λ h. absurd (omega arith)))

left_jumps : (l : ℕ) → l < 3 → is_jump (line_at left l) ≡ true → (line_at left l).operand < 3 → left_label (line_at left l).operand ≡ left_label l +ℤ change left l
left_jumps = each (λ l. is_jump (line_at left l) ≡ true → (line_at left l).operand < 3 → left_label (line_at left l).operand ≡ left_label l +ℤ change left l) 3 (((tt, (λ j h. absurd (false≢true j))), (λ j h. absurd (false≢true j))), (λ j h. absurd (false≢true j)))

left_serves : (l : ℕ) → l < 3 → Serves left left_inputs 3 left_label refl left_next left_jumps l
left_serves = each (Serves left left_inputs 3 left_label refl left_next left_jumps) 3 (((tt, (inl refl, inl refl, inl (λ z. omega arith))), (inl refl, inr (apart (λ z. omega arith)), inl (λ z. omega arith))), (inl refl, inl refl, inl (λ z. omega arith)))

pub left_refused : LeftRefused
left_refused = refusal left left_inputs 3 left_label refl left_next left_jumps (off {u = Module input_module} (lit< tt) (passed (passed (passed (at_entry {m = 0} (inl refl)) (own left 0 (lit< tt) refl) (inl (refl, refl))) (own left 1 (lit< tt) refl) (inl (refl, refl))) (own left 2 (lit< tt) refl) (inl (refl, refl))) (inr (inr (inr (refl, apart (λ z. omega arith)))))) left_serves

-- MEETING

abbrev meeting : Program
meeting = in_input (row name.Ldr 0 0 ∷ row name.Jl1 0 4 ∷ row name.Ldr 0 0 ∷ row name.Ldr 0 0 ∷ row name.La 2 0 ∷ [])

meeting_inputs : Inputs meeting
meeting_inputs = record { shaped = record { counts = in_range; bytes_small = zeros_small; activation_inside = λ k h. absurd (omega arith); all_lines = refl }; no_mechanism = refl; shut = λ l e. ap (open_at meeting) e; input_first = refl; input_end = refl; fine = each (Fine meeting) 5 (((((tt, ((λ e. clash ⊥ _ e, lit< tt, refl), refl, refl, refl, refl)), ((λ e. clash ⊥ _ e, tt, refl), refl, refl, refl, refl)), ((λ e. clash ⊥ _ e, lit< tt, refl), refl, refl, refl, refl)), ((λ e. clash ⊥ _ e, lit< tt, refl), refl, refl, refl, refl)), ((λ e. clash ⊥ _ e, refl, refl), refl, refl, refl, refl)); leads = each (Leads meeting) 5 (((((tt, (refl, inl refl)), (refl, inr (lit< tt, lit< tt, refl))), (refl, inl refl)), (refl, inl refl)), (refl, inl refl)) }
  where
    in_range : (s : Section) → (least_count s ≤ records meeting s) × (records meeting s ≤ most_count s)
    in_range data_section = (lit≤ tt, lit≤ tt)
    in_range mechanism_section = (lit≤ tt, lit≤ tt)
    in_range module_section = (lit≤ tt, lit≤ tt)
    in_range line_section = (lit≤ tt, lit≤ tt)

abbrev meeting_label : ℕ → ℤ
meeting_label = labels (0 ∷ 0 ∷ 0 ∷ 0 ∷ 1 ∷ [])

meeting_next : (l : ℕ) → l < 5 → suc l < 4 → meeting_label (suc l) ≡ meeting_label l +ℤ change meeting l
meeting_next = each (λ l. suc l < 4 → meeting_label (suc l) ≡ meeting_label l +ℤ change meeting l) 5 (((((tt, (λ h. refl)), (λ h. refl)), (λ h. refl)), (λ h. absurd (omega arith))), (λ h. absurd (omega arith)))

meeting_jumps : (l : ℕ) → l < 5 → is_jump (line_at meeting l) ≡ true → (line_at meeting l).operand < 4 → meeting_label (line_at meeting l).operand ≡ meeting_label l +ℤ change meeting l
meeting_jumps = each (λ l. is_jump (line_at meeting l) ≡ true → (line_at meeting l).operand < 4 → meeting_label (line_at meeting l).operand ≡ meeting_label l +ℤ change meeting l) 5 (((((tt, (λ j h. absurd (false≢true j))), (λ j h. absurd (omega arith))), (λ j h. absurd (false≢true j))), (λ j h. absurd (false≢true j))), (λ j h. absurd (false≢true j)))

meeting_serves : (l : ℕ) → l < 4 → Serves meeting meeting_inputs 4 meeting_label refl meeting_next meeting_jumps l
meeting_serves = each (Serves meeting meeting_inputs 4 meeting_label refl meeting_next meeting_jumps) 4 ((((tt, (inl refl, inl refl, inl (λ z. omega arith))), (inl refl, inl refl, inl (λ z. omega arith))), (inl refl, inl refl, inl (λ z. omega arith))), (inl refl, inr (apart (λ z. omega arith)), inl (λ z. omega arith)))

pub meeting_refused : MeetingRefused
meeting_refused = refusal meeting meeting_inputs 4 meeting_label refl meeting_next meeting_jumps (two_depths {u = Module input_module} (lit< tt) (passed (passed (at_entry {m = 0} (inl refl)) (own meeting 0 (lit< tt) refl) (inl (refl, refl))) (own meeting 1 (lit< tt) refl) (inr (refl, refl))) (passed (passed (passed (passed (at_entry {m = 0} (inl refl)) (own meeting 0 (lit< tt) refl) (inl (refl, refl))) (own meeting 1 (lit< tt) refl) (inl (refl, refl))) (own meeting 2 (lit< tt) refl) (inl (refl, refl))) (own meeting 3 (lit< tt) refl) (inl (refl, refl))) (apart (λ z. omega arith))) meeting_serves

-- NINE

nine_inputs : Inputs nine
nine_inputs = record { shaped = record { counts = in_range; bytes_small = zeros_small; activation_inside = λ k h. absurd (omega arith); all_lines = refl }; no_mechanism = refl; shut = λ l e. ap (open_at nine) e; input_first = refl; input_end = refl; fine = each (Fine nine) 18 ((((((((((((((((((tt, ((λ e. clash ⊥ _ e, lit< tt, refl), refl, refl, refl, refl)), ((λ e. clash ⊥ _ e, lit< tt, refl), refl, refl, refl, refl)), ((λ e. clash ⊥ _ e, lit< tt, refl), refl, refl, refl, refl)), ((λ e. clash ⊥ _ e, lit< tt, refl), refl, refl, refl, refl)), ((λ e. clash ⊥ _ e, lit< tt, refl), refl, refl, refl, refl)), ((λ e. clash ⊥ _ e, lit< tt, refl), refl, refl, refl, refl)), ((λ e. clash ⊥ _ e, lit< tt, refl), refl, refl, refl, refl)), ((λ e. clash ⊥ _ e, lit< tt, refl), refl, refl, refl, refl)), ((λ e. clash ⊥ _ e, lit< tt, refl), refl, refl, refl, refl)), ((λ e. clash ⊥ _ e, refl, refl), refl, refl, refl, refl)), ((λ e. clash ⊥ _ e, refl, refl), refl, refl, refl, refl)), ((λ e. clash ⊥ _ e, refl, refl), refl, refl, refl, refl)), ((λ e. clash ⊥ _ e, refl, refl), refl, refl, refl, refl)), ((λ e. clash ⊥ _ e, refl, refl), refl, refl, refl, refl)), ((λ e. clash ⊥ _ e, refl, refl), refl, refl, refl, refl)), ((λ e. clash ⊥ _ e, refl, refl), refl, refl, refl, refl)), ((λ e. clash ⊥ _ e, refl, refl), refl, refl, refl, refl)), ((λ e. clash ⊥ _ e, lit< tt, refl), refl, refl, refl, refl)); leads = each (Leads nine) 18 ((((((((((((((((((tt, (refl, inl refl)), (refl, inl refl)), (refl, inl refl)), (refl, inl refl)), (refl, inl refl)), (refl, inl refl)), (refl, inl refl)), (refl, inl refl)), (refl, inl refl)), (refl, inl refl)), (refl, inl refl)), (refl, inl refl)), (refl, inl refl)), (refl, inl refl)), (refl, inl refl)), (refl, inl refl)), (refl, inl refl)), (refl, inl refl)) }
  where
    in_range : (s : Section) → (least_count s ≤ records nine s) × (records nine s ≤ most_count s)
    in_range data_section = (lit≤ tt, lit≤ tt)
    in_range mechanism_section = (lit≤ tt, lit≤ tt)
    in_range module_section = (lit≤ tt, lit≤ tt)
    in_range line_section = (lit≤ tt, lit≤ tt)

abbrev nine_label : ℕ → ℤ
nine_label = labels (0 ∷ 0 ∷ 1 ∷ 2 ∷ 3 ∷ 4 ∷ 5 ∷ 6 ∷ 7 ∷ 8 ∷ 7 ∷ 6 ∷ 5 ∷ 4 ∷ 3 ∷ 2 ∷ 1 ∷ 0 ∷ 0 ∷ [])

nine_next : (l : ℕ) → l < 18 → suc l < 19 → nine_label (suc l) ≡ nine_label l +ℤ change nine l
nine_next = each (λ l. suc l < 19 → nine_label (suc l) ≡ nine_label l +ℤ change nine l) 18 ((((((((((((((((((tt, (λ h. refl)), (λ h. refl)), (λ h. refl)), (λ h. refl)), (λ h. refl)), (λ h. refl)), (λ h. refl)), (λ h. refl)), (λ h. refl)), (λ h. refl)), (λ h. refl)), (λ h. refl)), (λ h. refl)), (λ h. refl)), (λ h. refl)), (λ h. refl)), (λ h. refl)), (λ h. refl))

nine_jumps : (l : ℕ) → l < 18 → is_jump (line_at nine l) ≡ true → (line_at nine l).operand < 19 → nine_label (line_at nine l).operand ≡ nine_label l +ℤ change nine l
nine_jumps = each (λ l. is_jump (line_at nine l) ≡ true → (line_at nine l).operand < 19 → nine_label (line_at nine l).operand ≡ nine_label l +ℤ change nine l) 18 ((((((((((((((((((tt, (λ j h. absurd (false≢true j))), (λ j h. absurd (false≢true j))), (λ j h. absurd (false≢true j))), (λ j h. absurd (false≢true j))), (λ j h. absurd (false≢true j))), (λ j h. absurd (false≢true j))), (λ j h. absurd (false≢true j))), (λ j h. absurd (false≢true j))), (λ j h. absurd (false≢true j))), (λ j h. absurd (false≢true j))), (λ j h. absurd (false≢true j))), (λ j h. absurd (false≢true j))), (λ j h. absurd (false≢true j))), (λ j h. absurd (false≢true j))), (λ j h. absurd (false≢true j))), (λ j h. absurd (false≢true j))), (λ j h. absurd (false≢true j))), (λ j h. absurd (false≢true j)))

nine_serves : (l : ℕ) → l < 19 → Serves nine nine_inputs 19 nine_label refl nine_next nine_jumps l
nine_serves = each (Serves nine nine_inputs 19 nine_label refl nine_next nine_jumps) 19 (((((((((((((((((((tt, (inl refl, inl refl, inl (λ z. omega arith))), (inl refl, inr (apart (λ z. omega arith)), inl (λ z. omega arith))), (inl refl, inr (apart (λ z. omega arith)), inl (λ z. omega arith))), (inl refl, inr (apart (λ z. omega arith)), inl (λ z. omega arith))), (inl refl, inr (apart (λ z. omega arith)), inl (λ z. omega arith))), (inl refl, inr (apart (λ z. omega arith)), inl (λ z. omega arith))), (inl refl, inr (apart (λ z. omega arith)), inl (λ z. omega arith))), (inl refl, inr (apart (λ z. omega arith)), inl (λ z. omega arith))), (inl refl, inr (apart (λ z. omega arith)), inl (λ z. omega arith))), (inr (apart (λ z. omega arith)), inl refl, inl (λ z. omega arith))), (inr (apart (λ z. omega arith)), inl refl, inl (λ z. omega arith))), (inr (apart (λ z. omega arith)), inl refl, inl (λ z. omega arith))), (inr (apart (λ z. omega arith)), inl refl, inl (λ z. omega arith))), (inr (apart (λ z. omega arith)), inl refl, inl (λ z. omega arith))), (inr (apart (λ z. omega arith)), inl refl, inl (λ z. omega arith))), (inr (apart (λ z. omega arith)), inl refl, inl (λ z. omega arith))), (inr (apart (λ z. omega arith)), inl refl, inl (λ z. omega arith))), (inl refl, inl refl, inl (λ z. omega arith))), (inl refl, inl refl, inr refl))

-- every route of nine arrives at a line up to 18
first_low : (u : UnitId) → Real nine u → first nine u < 19
first_low (Module m) h = each (λ m. first nine (Module m) < 19) 7 (((((((tt, lit< tt), lit< tt), lit< tt), lit< tt), lit< tt), lit< tt), lit< tt) m h
first_low (Mechanism k) h = absurd (omega arith)

arrives_low : {u : UnitId} {path : List ℕ} {l : ℕ} → Arrives nine u path l → Real nine u → l < 19
arrives_low {u} (at_entry (inl e)) h = let q = first_low u h in omega arith
arrives_low (at_entry (inr (x, o, z, e))) h = absurd (false≢true (sym (nine_inputs.fine x o.within).3 ∙ z))
arrives_low (passed {l = l} a o (inl (x, e))) h = let q = (nine_inputs.leads l o.within).0 in let w = o.within in omega arith
arrives_low (passed {l = l} a o (inr (j, e))) h = absurd (false≢true (sym (each (λ l. is_jump (line_at nine l) ≡ false) 18 ((((((((((((((((((tt, refl), refl), refl), refl), refl), refl), refl), refl), refl), refl), refl), refl), refl), refl), refl), refl), refl), refl) l o.within) ∙ j))

nine_unbroken : (r l : ℕ) → Breaks nine r l → ⊥
nine_unbroken r l b = go (low_unbroken nine nine_inputs r l b) b
  where
    deep : (l : ℕ) → IsBadDepth nine l → ⊥
    deep l d = depth_serves nine nine_inputs 19 nine_label refl nine_next nine_jumps l (at_most_end l d) (nine_serves l (at_most_end l d)) d
      where
        low : {u : UnitId} {path : List ℕ} {l : ℕ} → Real nine u → Arrives nine u path l → l < 19
        low h a = arrives_low a h

        at_most_end : (l : ℕ) → IsBadDepth nine l → l < 19
        at_most_end l (two_depths h x y n) = low h x
        at_most_end l (off h x o) = low h x

    go : (r ≡ 13) ⊎ (r ≡ 14) → Breaks nine r l → ⊥
    go h (by_unknown_line e g) = elim h [ inl q ↦ omega arith | inr q ↦ omega arith ]
    go h (by_bad_operand e g) = elim h [ inl q ↦ omega arith | inr q ↦ omega arith ]
    go h (by_bad_mechanism e g) = elim h [ inl q ↦ omega arith | inr q ↦ omega arith ]
    go h (by_bad_jump e g) = elim h [ inl q ↦ omega arith | inr q ↦ omega arith ]
    go h (by_bad_exit e g) = elim h [ inl q ↦ omega arith | inr q ↦ omega arith ]
    go h (by_bad_init e g) = elim h [ inl q ↦ omega arith | inr q ↦ omega arith ]
    go h (by_bad_depth e g) = deep l g
    go h (by_uninitialised e q g) = initialised nine nine_inputs l g

nine_accepts : Accepted nine
nine_accepts = record { shaped = nine_inputs.shaped; unbroken = nine_unbroken }

nine_low : (l : ℕ) → l < 19 → nine_label l ≤ℤ pos 8
nine_low = each (λ l. nine_label l ≤ℤ pos 8) 19 (((((((((((((((((((tt, (omega (arith, ints))), (omega (arith, ints))), (omega (arith, ints))), (omega (arith, ints))), (omega (arith, ints))), (omega (arith, ints))), (omega (arith, ints))), (omega (arith, ints))), (omega (arith, ints))), (omega (arith, ints))), (omega (arith, ints))), (omega (arith, ints))), (omega (arith, ints))), (omega (arith, ints))), (omega (arith, ints))), (omega (arith, ints))), (omega (arith, ints))), (omega (arith, ints))), (omega (arith, ints)))

no_deeper : (d : ℤ) → DepthOf nine d → d ≤ℤ pos 8
no_deeper d (u, l, a, h, r, e) = go (same_part u (Module input_module))
  where
    go : (u ≡ Module input_module) ⊎ (u ≡ Module input_module → ⊥) → d ≤ℤ pos 8
    go (inl q) = subst (λ (x : ℤ). x ≤ℤ pos 8) (sym (e ∙ labelled nine nine_inputs 19 nine_label refl nine_next nine_jumps (subst (λ (v : UnitId). Arrives nine v a l) q r) (arrives_low r h))) (nine_low l (arrives_low r h))
    go (inr k) = subst (λ (x : ℤ). x ≤ℤ pos 8) (sym (e ∙ flat_elsewhere nine nine_inputs 19 nine_label refl nine_next nine_jumps k r)) (omega (arith, ints))

nine_takes : (t n : ℕ) → t < 7 → Takes nine (Module t) n → first nine (Module t) + n ≤ end nine (Module t)
nine_takes t n h k = takes_bound nine nine_inputs.shaped (orderly nine (formed nine nine_accepts)) t n h k

block_none : (n : ℕ) → BlockTakes nine n → n ≡ 0
block_none n (inl e) = e
block_none n (inr (inl k)) = let q = nine_takes block_init n (lit< tt) k in omega arith
block_none n (inr (inr k)) = let q = nine_takes block_done n (lit< tt) k in omega arith

nine_bound : (n : ℕ) → ScanTakes nine n → n ≤ 18
nine_bound n s =
    let i = nine_takes input_module s.input (lit< tt) s.input_takes in
    let b = block_none s.block s.block_takes in
    let m = nine_takes main_module s.main (lit< tt) s.main_takes in
    let e = s.adds_up in
    omega arith

pub nine_accepted : NineAccepted
nine_accepted = (
  nine_accepts,
  record {
    lines_are = refl;
    stack_bounds = no_deeper;
    stack_attained = (Module input_module, 9, 8 ∷ 7 ∷ 6 ∷ 5 ∷ 4 ∷ 3 ∷ 2 ∷ 1 ∷ 0 ∷ [], lit< tt, (passed (passed (passed (passed (passed (passed (passed (passed (passed (at_entry {m = 0} (inl refl)) (own nine 0 (lit< tt) refl) (inl (refl, refl))) (own nine 1 (lit< tt) refl) (inl (refl, refl))) (own nine 2 (lit< tt) refl) (inl (refl, refl))) (own nine 3 (lit< tt) refl) (inl (refl, refl))) (own nine 4 (lit< tt) refl) (inl (refl, refl))) (own nine 5 (lit< tt) refl) (inl (refl, refl))) (own nine 6 (lit< tt) refl) (inl (refl, refl))) (own nine 7 (lit< tt) refl) (inl (refl, refl))) (own nine 8 (lit< tt) refl) (inl (refl, refl))), refl);
    scan_is = record {
      none_above = nine_bound;
      attained = record { input = 18; block = 0; main = 0; input_takes = (17 ∷ 16 ∷ 15 ∷ 14 ∷ 13 ∷ 12 ∷ 11 ∷ 10 ∷ 9 ∷ 8 ∷ 7 ∷ 6 ∷ 5 ∷ 4 ∷ 3 ∷ 2 ∷ 1 ∷ 0 ∷ [], to_end (passed (passed (passed (passed (passed (passed (passed (passed (passed (passed (passed (passed (passed (passed (passed (passed (passed (passed (at_entry {m = 0} (inl refl)) (own nine 0 (lit< tt) refl) (inl (refl, refl))) (own nine 1 (lit< tt) refl) (inl (refl, refl))) (own nine 2 (lit< tt) refl) (inl (refl, refl))) (own nine 3 (lit< tt) refl) (inl (refl, refl))) (own nine 4 (lit< tt) refl) (inl (refl, refl))) (own nine 5 (lit< tt) refl) (inl (refl, refl))) (own nine 6 (lit< tt) refl) (inl (refl, refl))) (own nine 7 (lit< tt) refl) (inl (refl, refl))) (own nine 8 (lit< tt) refl) (inl (refl, refl))) (own nine 9 (lit< tt) refl) (inl (refl, refl))) (own nine 10 (lit< tt) refl) (inl (refl, refl))) (own nine 11 (lit< tt) refl) (inl (refl, refl))) (own nine 12 (lit< tt) refl) (inl (refl, refl))) (own nine 13 (lit< tt) refl) (inl (refl, refl))) (own nine 14 (lit< tt) refl) (inl (refl, refl))) (own nine 15 (lit< tt) refl) (inl (refl, refl))) (own nine 16 (lit< tt) refl) (inl (refl, refl))) (own nine 17 (lit< tt) refl) (inl (refl, refl))), (line (line (line (line (line (line (line (line (line (line (line (line (line (line (line (line (line (line none))))))))))))))))))); block_takes = inl refl; main_takes = ([], to_end (at_entry (inl refl)), none); adds_up = refl };
    };
  },
)
