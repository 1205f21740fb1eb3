-- A unit of a formed program: where routes go from its lines, and that each line and the end is arrived at. Assumes nothing.
use Rattle.std.proofs.Common.{◌≡◌, ℕ, zero, suc, ◌+◌, ◌-◌, ◌<◌, ◌≤◌, Bool, true, false, ◌||◌, eqb, ◌⊎◌, List, [], ◌∷◌, length, Some, None, sym, refl, ap, ◌∙◌, subst, inl, inr, arith}
use Rattle.std.proofs.lemmas.Bool.{cases_eq, or_left}
use Rattle.rules.specs.Op.{is_begin, is_end, is_jump, is_ex}
use Rattle.rules.specs.Program.{Program, Own, Real, line_at, main_module, module_first, module_end, open_at, begin_line, end_line, first, end, after}
use Rattle.rules.specs.declared.unit.UnitId.{UnitId}
use Rattle.rules.specs.declared.unit.UnitId.TheVariants.{Module, Mechanism}
use Rattle.rules.specs.Form.{Shaped}
use Rattle.rules.specs.Verdict.{Formed}
use Rattle.rules.specs.Route.{Way, Arrives, at_entry, passed}
use Rattle.theory.proofs.Text.{open_more, end_within, first_end}
use Rattle.theory.proofs.Orderly.{Orderly, orderly, clash}
use Rattle.theory.proofs.Spans.{Span, span, span_at, since, next_begin, next_quiet}
use Rattle.theory.proofs.Units.{own_module, own_mechanism, make_inside, make_span, after_begin, after_plain, after_stays, jump_stays, entry_stays}
use Rattle.theory.proofs.Through.{own_main}
use Rattle.theory.proofs.Ends as Ends
use Rattle.walk.specs.Walked.{OwnOrEnd}

-- what the rules of the text give of a unit that the program has
pub record Sound (p : Program) (u : UnitId) : Type 0 where
  pub order : first p u ≤ end p u
  pub inside : end p u ≤ length p.lines
  pub low : (l : ℕ) → Own p u l → first p u ≤ l
  pub high : (l : ℕ) → Own p u l → l < end p u
  pub after_rises : (l : ℕ) → Own p u l → l < after p l
  pub way_rises : (l m : ℕ) → Own p u l → Way p l m → l < m
  pub after_stays : (l : ℕ) → Own p u l → OwnOrEnd p u (after p l)
  pub jump_stays : (l : ℕ) → Own p u l → is_jump (line_at p l) ≡ true → OwnOrEnd p u (line_at p l).operand
  pub begun : (l : ℕ) → Own p u l → is_begin (line_at p l) ≡ true → (line_at p l).operand < length p.activation
  pub stays : {path : List ℕ} {l : ℕ} → Arrives p u path l → OwnOrEnd p u l
  pub short : {path : List ℕ} {l : ℕ} → Arrives p u path l → first p u + length path ≤ l
  pub reached : (l : ℕ) → OwnOrEnd p u l → (path : List ℕ) × Arrives p u path l

-- a place of the unit stands from its first line to its end
pub place_low : {p : Program} {u : UnitId} → Sound p u → (l : ℕ) → OwnOrEnd p u l → first p u ≤ l
place_low s l (inl o) = s.low l o
place_low s l (inr e) = let q = s.order in omega arith

pub place_high : {p : Program} {u : UnitId} → Sound p u → (l : ℕ) → OwnOrEnd p u l → l ≤ end p u
place_high s l (inl o) = let q = s.high l o in omega arith
place_high s l (inr e) = omega arith

module _ (p : Program) (sec : Shaped p) (ord : Orderly p) where
  -- an own line after which line l comes
  abbrev Before : UnitId → ℕ → Type 0
  Before u l = (j : ℕ) × Own p u j × (after p j ≡ l)

  no_begin_module : (n j : ℕ) → (n ≡ main_module → ⊥) → Own p (Module n) j → (b : Bool) → is_begin (line_at p j) ≡ b → b ≡ false
  no_begin_module n j ne o true e = absurd (ne (sym (own_module p n j o).0 ∙ ord.begin_main j o.within e))
  no_begin_module n j ne o false e = refl

  before_module : (n l : ℕ) → n < length p.lengths → (n ≡ main_module → ⊥) → module_first p n < l → l ≤ module_end p n → Before (Module n) l
  before_module n l h ne a b =
      let o : Own p (Module n) (l - 1) = make_inside p sec ord n (l - 1) h (omega arith) (omega arith) (λ e. absurd (ne e)) in
      (l - 1, o, after_plain p sec ord (l - 1) (no_begin_module n (l - 1) ne o (is_begin (line_at p (l - 1))) refl) ∙ omega arith)

  no_begin_mechanism : (k j : ℕ) → Own p (Mechanism k) j → (b : Bool) → is_begin (line_at p j) ≡ b → b ≡ false
  no_begin_mechanism k j o true e = clash (true ≡ false) k (sym (own_mechanism p k j o).1 ∙ ord.begin_shut j o.within e)
  no_begin_mechanism k j o false e = refl

  before_mechanism : (k l : ℕ) → Span p k → begin_line p k + 1 < l → l ≤ end_line p k + 1 → Before (Mechanism k) l
  before_mechanism k l s a b =
      let o : Own p (Mechanism k) (l - 1) = make_span p sec ord k (l - 1) s (omega arith) (omega arith) in
      (l - 1, o, after_plain p sec ord (l - 1) (no_begin_mechanism k (l - 1) o (is_begin (line_at p (l - 1))) refl) ∙ omega arith)

  -- the line after MECH_END comes after its MECH_BEGIN
  before_end : (j k : ℕ) → module_end p main_module ≤ length p.lines → j < module_end p main_module → open_at p (j + 1) ≡ None → Span p k → begin_line p k < j → j ≤ end_line p k → (j ≡ end_line p k) ⊎ (j ≡ end_line p k → ⊥) → Before (Module main_module) (j + 1)
  before_end j k w h o s x y (inr n) = clash (Before (Module main_module) (j + 1)) k (sym (s.open_there (j + 1) (omega arith) (omega arith)) ∙ o)
  before_end j k w h o s x y (inl e) =
      let f = s.from in
      let b = begin_line p k in
      (b, own_main p sec ord b f (omega arith) (ord.begin_shut b (omega arith) s.begin_there), after_begin p sec ord b s.begin_there ∙ ap (λ (z : ℕ). end_line p z + 1) s.begin_names ∙ ap (λ (z : ℕ). z + 1) (sym e))

  before_main : (j : ℕ) → module_first p main_module ≤ j → j < module_end p main_module → open_at p (j + 1) ≡ None → (b e : Bool) → is_begin (line_at p j) ≡ b → is_end (line_at p j) ≡ e → Before (Module main_module) (j + 1)
  before_main j a h o true e eb ee =
      let w = end_within p main_module sec.all_lines in
      clash (Before (Module main_module) (j + 1)) (line_at p j).operand (sym (open_more p j a (omega arith) ∙ next_begin (line_at p j) (open_at p j) eb) ∙ o)
  before_main j a h o false true eb ee =
      let w = end_within p main_module sec.all_lines in
      let k = (line_at p j).operand in
      let open_j : open_at p j ≡ Some k = ord.end_open j (omega arith) ee in
      let s = since p sec ord (j - module_first p main_module) j k (omega arith) (omega arith) open_j in
      let sb = s.before in
      let sp : Span p k = subst (λ (x : ℕ). Span p x) s.names (span_at p sec ord s.b (omega arith) s.begin_there) in
      let i = sp.nowhere_else j a (omega arith) open_j in
      before_end j k w h o sp i.0 i.1 (cases_eq j (end_line p k))
  before_main j a h o false false eb ee =
      let w = end_within p main_module sec.all_lines in
      let open_j : open_at p j ≡ None = sym (open_more p j a (omega arith) ∙ next_quiet (line_at p j) (open_at p j) eb ee) ∙ o in
      (j, own_main p sec ord j a h open_j, after_plain p sec ord j eb)

  before : (u : UnitId) (l : ℕ) → Real p u → OwnOrEnd p u l → first p u < l → l ≤ end p u → Before u l
  before (Module n) l h s a b = go (cases_eq n main_module) s
    where
      shut : OwnOrEnd p (Module main_module) l → open_at p l ≡ None
      shut (inl o) = (own_module p main_module l o).1 refl
      shut (inr e) = ap (open_at p) e ∙ ord.shut

      main : n ≡ main_module → OwnOrEnd p (Module main_module) l → Before (Module main_module) l
      main e s =
          let c : module_first p main_module < l = subst (λ (x : ℕ). module_first p x < l) e a in
          let d : l ≤ module_end p main_module = subst (λ (x : ℕ). l ≤ module_end p x) e b in
          let q : l - 1 + 1 ≡ l = omega arith in
          subst (Before (Module main_module)) q (before_main (l - 1) (omega arith) (omega arith) (ap (open_at p) q ∙ shut s) (is_begin (line_at p (l - 1))) (is_end (line_at p (l - 1))) refl refl)

      go : (n ≡ main_module) ⊎ (n ≡ main_module → ⊥) → OwnOrEnd p (Module n) l → Before (Module n) l
      go (inl e) s = subst (λ (x : ℕ). Before (Module x) l) (sym e) (main e (subst (λ (x : ℕ). OwnOrEnd p (Module x) l) e s))
      go (inr ne) s = before_module n l h ne a b
  before (Mechanism k) l h s a b = before_mechanism k l (span p sec ord k h) a b

  ordered : (u : UnitId) → Real p u → first p u ≤ end p u
  ordered (Module n) h = first_end p n
  ordered (Mechanism k) h = let o = (span p sec ord k h).order in omega arith

  end_inside : (u : UnitId) → Real p u → end p u ≤ length p.lines
  end_inside (Module n) h = end_within p n sec.all_lines
  end_inside (Mechanism k) h =
      let t = (span p sec ord k h).to in
      let w = end_within p main_module sec.all_lines in
      omega arith

  module _ (u : UnitId) (real : Real p u) where
    way_stays : (l m : ℕ) → Own p u l → Way p l m → OwnOrEnd p u m
    way_stays l m o (inl (x, e)) = subst (OwnOrEnd p u) (sym e) (after_stays p sec ord u l real o)
    way_stays l m o (inr (j, e)) = subst (OwnOrEnd p u) (sym e) (jump_stays p sec ord u l o j)

    arrived : {path : List ℕ} {l : ℕ} → Arrives p u path l → OwnOrEnd p u l
    arrived (at_entry {m = m} e) = entry_stays p sec ord u m real e
    arrived (passed {l = l} {m = m} a o w) = way_stays l m o w

    high_place : (l : ℕ) → OwnOrEnd p u l → l ≤ end p u
    high_place l (inl o) = let q = Ends.own_high p sec ord u l real o in omega arith
    high_place l (inr e) = omega arith

    low_place : (l : ℕ) → OwnOrEnd p u l → first p u ≤ l
    low_place l (inl o) = Ends.own_low p sec ord u l real o
    low_place l (inr e) = let q = ordered u real in omega arith

    onward : (l j : ℕ) → Own p u j → after p j ≡ l → (path : List ℕ) → Arrives p u path j → (b : Bool) → is_ex (line_at p j) ≡ b → (path : List ℕ) × Arrives p u path l
    onward l j o e path a true x = ([], at_entry (inr (j, o, or_left (is_ex (line_at p j)) (eqb (line_at p j).code 12 || eqb (line_at p j).code 13) x, sym e)))
    onward l j o e path a false x = (j ∷ path, passed a o (inl (x, sym e)))

    -- the route that takes no jump
    arrived_at : (fuel l : ℕ) → l ≤ fuel → OwnOrEnd p u l → (l ≡ first p u) ⊎ (l ≡ first p u → ⊥) → (path : List ℕ) × Arrives p u path l
    arrived_at fuel l h s (inl e) = ([], at_entry (inl e))
    arrived_at zero l h s (inr ne) = let q = low_place l s in absurd (omega arith)
    arrived_at (suc fuel) l h s (inr ne) =
        let q = low_place l s in
        let b = before u l real s (omega arith) (high_place l s) in
        let j = b.0 in
        let o = b.1 in
        let r = Ends.after_rises p sec ord j o.within (is_begin (line_at p j)) refl in
        let e = b.2 in
        let a = arrived_at fuel j (omega arith) (inl o) (cases_eq j (first p u)) in
        onward l j o e a.0 a.1 (is_ex (line_at p j)) refl

pub sound : (p : Program) → Formed p → (u : UnitId) → Real p u → Sound p u
sound p formed u real =
    let sec = formed.shaped in
    let ord = orderly p formed in
    record {
      order = ordered p sec ord u real;
      inside = end_inside p sec ord u real;
      low = λ l o. Ends.own_low p sec ord u l real o;
      high = λ l o. Ends.own_high p sec ord u l real o;
      after_rises = λ l o. Ends.after_rises p sec ord l o.within (is_begin (line_at p l)) refl;
      way_rises = λ l m o w. Ends.way_rises p sec ord l m o.within w;
      after_stays = λ l o. after_stays p sec ord u l real o;
      jump_stays = λ l o j. jump_stays p sec ord u l o j;
      begun = λ l o b. Ends.begun_real p sec ord l o.within b;
      stays = λ a. arrived p sec ord u real a;
      short = λ a. Ends.path_length p sec ord u real a;
      reached = λ l s. arrived_at p sec ord u real l l (omega arith) s (cases_eq l (first p u));
    }
