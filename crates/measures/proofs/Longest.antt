-- A route has the most steps where each of its MECH_BEGIN adds its mechanism's bound. Assumes nothing.
use Rattle.std.proofs.Common.{◌≡◌, ℕ, suc, ◌+◌, ◌<◌, ◌≤◌, max, Bool, true, false, List, [], ◌∷◌, length, get_or, sym, refl, ap, ◌∙◌, subst, ⊎_elim, arith}
use Rattle.std.proofs.lemmas.Bool.{cases_lt, both_ways, cond-true, cond-false}
use Rattle.rules.specs.declared.unit.UnitId.{UnitId}
use Rattle.rules.specs.declared.unit.UnitId.TheVariants.{Module, Mechanism}
use Rattle.rules.specs.Op.{is_begin}
use Rattle.rules.specs.Program.{Program, Own, Real, line_at, main_module}
use Rattle.rules.specs.Image.{line_section}
use Rattle.rules.specs.Form.{Shaped}
use Rattle.rules.specs.Verdict.{Formed}
use Rattle.rules.specs.Route.{Arrives, at_entry, passed, Route, to_end, stopped, Steps, none, line, entered, Takes, Greatest}
use Rattle.theory.proofs.Text.{end_within}
use Rattle.theory.proofs.Orderly.{Orderly, orderly, clash}
use Rattle.theory.proofs.Units.{own_mechanism, make_module}
use Rattle.theory.proofs.Spans.{span}
use Rattle.theory.proofs.Ends as Ends
use Rattle.walk.specs.Joins.{Built, one, both, JoinOf}
use Rattle.walk.specs.Walked.{along, Brought, Whole}
use Rattle.measures.specs.Models.{bound_of, steps_after}
use Rattle.measures.specs.Meaning.{Comes, BoundsHold}

-- at the larger the join is a member that no other exceeds
pub largest : {S : ℕ → Type 0} {v : ℕ} → JoinOf max S v → Greatest S v
largest {S} j = record { none_above = λ x s. omega (arith, j.takes_in x s); attained = member j.built }
  where
    member : {w : ℕ} → Built max S w → S w
    member (one s) = s
    member (both {x} {y} p q) = ⊎_elim (λ h. let e : y ≡ max x y = omega arith in subst S e (member q)) (λ h. let e : x ≡ max x y = omega arith in subst S e (member p)) (cases_lt x y)

module _ (p : Program) (formed : Formed p) where
  abbrev sec : Shaped p
  sec = formed.shaped

  abbrev ord : Orderly p
  ord = orderly p formed

  few_lines : length p.lines ≤ 2048
  few_lines = (sec.counts line_section).1

  all_plain : (path : List ℕ) → Steps p path (length path)
  all_plain [] = none
  all_plain (l ∷ path) = line (all_plain path)

  no_steps : (k : ℕ) → Steps p [] k → k ≤ 0
  no_steps k none = omega arith

  no_begin : (k l : ℕ) → Own p (Mechanism k) l → is_begin (line_at p l) ≡ true → ⊥
  no_begin k l o b = clash ⊥ k (sym (own_mechanism p k l o).1 ∙ ord.begin_shut l o.within b)

  -- a mechanism's route has a step for each line
  mechanism_steps : (k : ℕ) {path : List ℕ} {l n : ℕ} → Arrives p (Mechanism k) path l → Steps p path n → n ≡ length path
  mechanism_steps k (at_entry e) none = refl
  mechanism_steps k (passed a o w) (line s) = ap suc (mechanism_steps k a s)
  mechanism_steps k (passed {l = l} a o w) (entered b r s) = absurd (no_begin k l o b)

  mechanism_route : (k : ℕ) {path : List ℕ} {n : ℕ} → Route p (Mechanism k) path → Steps p path n → n ≡ length path
  mechanism_route k (to_end a) s = mechanism_steps k a s
  mechanism_route k (stopped a o e) (line s) = ap suc (mechanism_steps k a s)
  mechanism_route k (stopped {l = l} a o e) (entered b r s) = absurd (no_begin k l o b)

  -- MECH_BEGIN is a line of MAIN
  begins_main : (u : UnitId) (l : ℕ) → Own p u l → is_begin (line_at p l) ≡ true → u ≡ Module main_module
  begins_main u l o b = sym o.part ∙ (make_module p main_module l o.within (ord.begin_main l o.within b) (λ _. ord.begin_shut l o.within b)).part

  few_steps : (u : UnitId) → Real p u → {path : List ℕ} {l n : ℕ} → Arrives p u path l → Steps p path n → n ≤ l
  few_steps (Module t) h a s = let q = Ends.module_steps p sec ord t h a s in omega arith
  few_steps (Mechanism k) h a s =
      let q = Ends.path_length p sec ord (Mechanism k) h a in
      let e = mechanism_steps k a s in
      omega arith

  module _ (u : UnitId) (real : Real p u) (bounds : List ℕ) (right : BoundsHold p u bounds) where
    -- one line more
    at_begin : (path : List ℕ) (l n : ℕ) → n ≤ l → Own p u l → Greatest (Steps p path) n → is_begin (line_at p l) ≡ true → Greatest (Steps p (l ∷ path)) (steps_after bounds l (line_at p l) n)
    at_begin path l n small o g b =
        let k = (line_at p l).operand in
        let here : k < length p.activation = Ends.begun_real p sec ord l o.within b in
        let most = right (begins_main u l o b) k here in
        let inner = most.attained.0 in
        let route = most.attained.1 in
        let long : get_or bounds k 0 ≡ length inner = mechanism_route k route most.attained.2 in
        let adds : bound_of bounds (line_at p l) ≡ get_or bounds k 0 = cond-true (is_begin (line_at p l)) (get_or bounds k 0) 0 b in
        let sp = span p sec ord k here in
        let i = Ends.inner_length p sec ord k inner sp here route in
        let t = sp.to in
        let w = end_within p main_module sec.all_lines in
        let f = few_lines in
        let h = o.within in
        let value : suc (n + length inner) ≡ steps_after bounds l (line_at p l) n = omega arith in
        subst (Greatest (Steps p (l ∷ path))) value (record { none_above = λ j s. above inner long most j s; attained = entered b route g.attained })
      where
        above : (inner : List ℕ) → get_or bounds (line_at p l).operand 0 ≡ length inner → Greatest (Takes p (Mechanism (line_at p l).operand)) (get_or bounds (line_at p l).operand 0) → (j : ℕ) → Steps p (l ∷ path) j → j ≤ suc (n + length inner)
        above inner long most j (line {n = m} s) = let q = g.none_above m s in omega arith
        above inner long most j (entered {inner = other} {n = m} c r s) =
            let q = g.none_above m s in
            let z = most.none_above (length other) (other, r, all_plain other) in
            omega arith

    at_other : (path : List ℕ) (l n : ℕ) → n ≤ l → Own p u l → Greatest (Steps p path) n → is_begin (line_at p l) ≡ false → Greatest (Steps p (l ∷ path)) (steps_after bounds l (line_at p l) n)
    at_other path l n small o g b =
        let adds : bound_of bounds (line_at p l) ≡ 0 = cond-false (is_begin (line_at p l)) (get_or bounds (line_at p l).operand 0) 0 b in
        let f = few_lines in
        let h = o.within in
        let value : suc n ≡ steps_after bounds l (line_at p l) n = omega arith in
        subst (Greatest (Steps p (l ∷ path))) value (record { none_above = above; attained = line g.attained })
      where
        above : (j : ℕ) → Steps p (l ∷ path) j → j ≤ suc n
        above j (line {n = m} s) = let q = g.none_above m s in omega arith
        above j (entered c r s) = absurd (both_ways (is_begin (line_at p l)) b c)

    one_more : (path : List ℕ) (l n : ℕ) → n ≤ l → Own p u l → Greatest (Steps p path) n → (b : Bool) → is_begin (line_at p l) ≡ b → Greatest (Steps p (l ∷ path)) (steps_after bounds l (line_at p l) n)
    one_more path l n small o g true b = at_begin path l n small o g b
    one_more path l n small o g false b = at_other path l n small o g b

    abbrev counted : List ℕ → ℕ
    counted path = along 0 (steps_after bounds) p path

    longest : {path : List ℕ} {l : ℕ} → Arrives p u path l → Greatest (Steps p path) (counted path)
    longest (at_entry e) = record { none_above = no_steps; attained = none }
    longest (passed {path} {l} a o w) =
        let g = longest a in
        one_more path l (counted path) (few_steps u real a g.attained) o g (is_begin (line_at p l)) refl

    pub longest_route : {path : List ℕ} → Route p u path → Greatest (Steps p path) (counted path)
    longest_route (to_end a) = longest a
    longest_route (stopped {path} {l} a o e) =
        let g = longest a in
        one_more path l (counted path) (few_steps u real a g.attained) o g (is_begin (line_at p l)) refl

    -- the join of the steps is the greatest number of them
    pub comes_in : (l n : ℕ) → JoinOf max (Brought 0 (steps_after bounds) p u l) n → Greatest (Comes p u l) n
    comes_in l n j = record { none_above = above; attained = there most.attained }
      where
        most : Greatest (Brought 0 (steps_after bounds) p u l) n
        most = largest j

        above : (k : ℕ) → Comes p u l k → k ≤ n
        above k (path, a, s) =
            let x = (longest a).none_above k s in
            let y = most.none_above (counted path) (path, a, refl) in
            omega arith

        there : Brought 0 (steps_after bounds) p u l n → Comes p u l n
        there (path, a, e) = (path, a, subst (Steps p path) e (longest a).attained)

    pub takes_at_most : (n : ℕ) → JoinOf max (Whole 0 (steps_after bounds) p u) n → Greatest (Takes p u) n
    takes_at_most n j = record { none_above = above; attained = there most.attained }
      where
        most : Greatest (Whole 0 (steps_after bounds) p u) n
        most = largest j

        above : (k : ℕ) → Takes p u k → k ≤ n
        above k (path, r, s) =
            let x = (longest_route r).none_above k s in
            let y = most.none_above (counted path) (path, r, refl) in
            omega arith

        there : Whole 0 (steps_after bounds) p u n → Takes p u n
        there (path, r, e) = (path, r, subst (Steps p path) e (longest_route r).attained)
