-- Where a mechanism stands in an orderly text: from its one MECH_BEGIN to its one MECH_END, open in between and nowhere else. Assumes nothing.
use Rattle.std.proofs.Common.{◌≡◌, ℕ, zero, suc, ◌+◌, ◌-◌, ◌<◌, ◌≤◌, Bool, true, false, cond, ◌&&◌, eqb, ◌⊎◌, List, [], ◌∷◌, length, get_or, Some, None, Option, sym, refl, ap, ◌∙◌, subst, inl, inr, one-add, arith}
use Rattle.std.proofs.lemmas.Bool.{cases_eq, cases_lt, cases_order, and_parts, and_from, eqb-true, eq-eqb, both_ways, cond-true, cond-false}
use Rattle.rules.specs.declared.line.Line.{Line}
use Rattle.rules.specs.Op.{is_begin, is_end}
use Rattle.rules.specs.Program.{Program, no_line, line_at, main_module, module_first, module_end, open_at, find, begin_line, end_line}
use Rattle.rules.specs.Form.{Shaped}
use Rattle.theory.proofs.Text.{open_next, open_more, open_first, inside, end_within}
use Rattle.theory.proofs.Orderly.{Orderly, clash}

pub find_least : (f : Line → Bool) (xs : List Line) (j : ℕ) (d : Line) → j < length xs → f (get_or xs j d) ≡ true → find f xs ≤ j
find_least f [] j d h e = absurd (omega arith)
find_least f (x ∷ xs) zero d h e = rw (cond-true (f x) 0 (1 + find f xs) e) (omega arith)
find_least f (x ∷ xs) (suc j) d h e = go (f x) (find_least f xs j d (omega arith) e)
  where
    go : (b : Bool) → find f xs ≤ j → cond b 0 (1 + find f xs) ≤ suc j
    go true ih = omega arith
    go false ih = omega arith

pub find_there : (f : Line → Bool) (xs : List Line) (d : Line) → find f xs < length xs → f (get_or xs (find f xs) d) ≡ true
find_there f [] d h = absurd (omega arith)
find_there f (x ∷ xs) d h = go (f x) refl h (find_there f xs d)
  where
    go : (b : Bool) → f x ≡ b → cond b 0 (1 + find f xs) < suc (length xs) → (find f xs < length xs → f (get_or xs (find f xs) d) ≡ true) → f (get_or (x ∷ xs) (cond b 0 (1 + find f xs)) d) ≡ true
    go true e h ih = e
    go false e h ih = rw one-add (ih (omega arith))

abbrev pub Quiet : Program → ℕ → Type 0
Quiet p j = (is_begin (line_at p j) ≡ false) × (is_end (line_at p j) ≡ false)

-- mechanism k is open at line l since its MECH_BEGIN
pub record Since (p : Program) (k l : ℕ) : Type 0 where
  pub b : ℕ
  pub from : module_first p main_module ≤ b
  pub before : b < l
  pub begin_there : is_begin (line_at p b) ≡ true
  pub names : (line_at p b).operand ≡ k
  pub quiet : (j : ℕ) → b < j → j < l → Quiet p j

-- and until its MECH_END
record Until (p : Program) (k l : ℕ) : Type 0 where
  e : ℕ
  after : l ≤ e
  to : e < module_end p main_module
  end_there : is_end (line_at p e) ≡ true
  names : (line_at p e).operand ≡ k
  quiet : (j : ℕ) → l ≤ j → j < e → Quiet p j
  open_there : (j : ℕ) → l ≤ j → j ≤ e → open_at p j ≡ Some k

pub record Span (p : Program) (k : ℕ) : Type 0 where
  pub from : module_first p main_module ≤ begin_line p k
  pub order : begin_line p k < end_line p k
  pub to : end_line p k < module_end p main_module
  pub begin_there : is_begin (line_at p (begin_line p k)) ≡ true
  pub begin_names : (line_at p (begin_line p k)).operand ≡ k
  pub end_there : is_end (line_at p (end_line p k)) ≡ true
  pub end_names : (line_at p (end_line p k)).operand ≡ k
  pub open_there : (j : ℕ) → begin_line p k < j → j ≤ end_line p k → open_at p j ≡ Some k
  pub nowhere_else : (j : ℕ) → module_first p main_module ≤ j → j ≤ module_end p main_module → open_at p j ≡ Some k → (begin_line p k < j) × (j ≤ end_line p k)

-- what a line does to the mechanism that is open
pub next_begin : (x : Line) (o : Option ℕ) → is_begin x ≡ true → open_next x o ≡ Some x.operand
next_begin x o h = cond-true (is_begin x) (Some x.operand) (cond (is_end x) None o) h

pub next_end : (x : Line) (o : Option ℕ) → is_begin x ≡ false → is_end x ≡ true → open_next x o ≡ None
next_end x o h g = cond-false (is_begin x) (Some x.operand) (cond (is_end x) None o) h ∙ cond-true (is_end x) None o g

pub next_quiet : (x : Line) (o : Option ℕ) → is_begin x ≡ false → is_end x ≡ false → open_next x o ≡ o
next_quiet x o h g = cond-false (is_begin x) (Some x.operand) (cond (is_end x) None o) h ∙ cond-false (is_end x) None o g

pub begins_not_ends : (x : Line) → is_end x ≡ true → is_begin x ≡ false
begins_not_ends x h = ap (λ (c : ℕ). eqb c 22) (eqb-true x.code 23 h)

module _ (p : Program) (sec : Shaped p) (ord : Orderly p) where
  inside_lines : (l : ℕ) → l < module_end p main_module → l < length p.lines
  inside_lines l h = let g = end_within p main_module sec.all_lines in omega arith

  since_step : (l k : ℕ) → module_first p main_module ≤ l → l < length p.lines → open_at p (l + 1) ≡ Some k → (open_at p l ≡ Some k → Since p k l) → (b e : Bool) → is_begin (line_at p l) ≡ b → is_end (line_at p l) ≡ e → Since p k (l + 1)
  since_step l k h g o ih true e eb ee =
      record { b = l; from = h; before = omega arith; begin_there = eb; names = (let q = sym (open_more p l h g ∙ next_begin (line_at p l) (open_at p l) eb) ∙ o in cc q); quiet = λ j x y. absurd (omega arith) }
  since_step l k h g o ih false true eb ee = clash (Since p k (l + 1)) k (sym o ∙ open_more p l h g ∙ next_end (line_at p l) (open_at p l) eb ee)
  since_step l k h g o ih false false eb ee =
      let s = ih (sym (open_more p l h g ∙ next_quiet (line_at p l) (open_at p l) eb ee) ∙ o) in
      record { b = s.b; from = s.from; before = (let q = s.before in omega arith); begin_there = s.begin_there; names = s.names; quiet = λ j x y. quiet_to s j x (cases_order j l) y }
    where
      quiet_to : (s : Since p k l) → (j : ℕ) → s.b < j → (j ≡ l) ⊎ ((j < l) ⊎ (l < j)) → j < l + 1 → Quiet p j
      quiet_to s j x (inl q) y = subst (λ (i : ℕ). Quiet p i) (sym q) (eb, ee)
      quiet_to s j x (inr (inl q)) y = s.quiet j x q
      quiet_to s j x (inr (inr q)) y = absurd (omega arith)

  pub since : (d l k : ℕ) → l ≡ module_first p main_module + d → l ≤ module_end p main_module → open_at p l ≡ Some k → Since p k l
  since zero l k q h o = let r : l ≡ module_first p main_module = omega arith in clash (Since p k l) k (sym o ∙ ap (open_at p) r ∙ open_first p)
  since (suc d) l k q h o =
      let i = module_first p main_module + d in
      let r : l ≡ i + 1 = omega arith in
      let g : i < length p.lines = inside_lines i (omega arith) in
      let s : Since p k (i + 1) = since_step i k (omega arith) g (sym (ap (open_at p) r) ∙ o) (λ o₂. since d i k refl (omega arith) o₂) (is_begin (line_at p i)) (is_end (line_at p i)) refl refl in
      subst (λ (x : ℕ). Since p k x) (sym r) s

  until_step : (l k : ℕ) → module_first p main_module ≤ l → l < module_end p main_module → open_at p l ≡ Some k → (open_at p (l + 1) ≡ Some k → Until p k (l + 1)) → (b e : Bool) → is_begin (line_at p l) ≡ b → is_end (line_at p l) ≡ e → Until p k l
  until_step l k h g o ih true e eb ee = clash (Until p k l) k (sym o ∙ ord.begin_shut l (inside_lines l g) eb)
  until_step l k h g o ih false true eb ee =
      record { e = l; after = omega arith; to = g; end_there = ee; names = (let q = sym (ord.end_open l (inside_lines l g) ee) ∙ o in cc q); quiet = λ j x y. absurd (omega arith); open_there = λ j x y. (let r : j ≡ l = omega arith in ap (open_at p) r ∙ o) }
  until_step l k h g o ih false false eb ee =
      let s = ih (open_more p l h (inside_lines l g) ∙ next_quiet (line_at p l) (open_at p l) eb ee ∙ o) in
      record { e = s.e; after = (let q = s.after in omega arith); to = s.to; end_there = s.end_there; names = s.names; quiet = λ j x y. quiet_from s j x (cases_eq j l) y; open_there = λ j x y. open_from s j x (cases_eq j l) y }
    where
      quiet_from : (s : Until p k (l + 1)) → (j : ℕ) → l ≤ j → (j ≡ l) ⊎ (j ≡ l → ⊥) → j < s.e → Quiet p j
      quiet_from s j x (inl q) y = subst (λ (i : ℕ). Quiet p i) (sym q) (eb, ee)
      quiet_from s j x (inr q) y = s.quiet j (omega arith) y

      open_from : (s : Until p k (l + 1)) → (j : ℕ) → l ≤ j → (j ≡ l) ⊎ (j ≡ l → ⊥) → j ≤ s.e → open_at p j ≡ Some k
      open_from s j x (inl q) y = ap (open_at p) q ∙ o
      open_from s j x (inr q) y = s.open_there j (omega arith) y

  until : (d l k : ℕ) → l + d ≡ module_end p main_module → module_first p main_module ≤ l → open_at p l ≡ Some k → Until p k l
  until zero l k q h o = let r : l ≡ module_end p main_module = omega arith in clash (Until p k l) k (sym o ∙ ap (open_at p) r ∙ ord.shut)
  until (suc d) l k q h o = until_step l k h (omega arith) o (λ o₂. until d (l + 1) k (omega arith) (omega arith) o₂) (is_begin (line_at p l)) (is_end (line_at p l)) refl refl

  -- a mechanism is begun once
  pub begun_once : (i j : ℕ) → i < length p.lines → j < length p.lines → is_begin (line_at p i) ≡ true → is_begin (line_at p j) ≡ true → (line_at p i).operand ≡ (line_at p j).operand → i ≡ j
  begun_once i j h g b c e = go (cases_order i j)
    where
      go : (i ≡ j) ⊎ ((i < j) ⊎ (j < i)) → i ≡ j
      go (inl q) = q
      go (inr (inl q)) = absurd (ord.begin_once j i g c q b e)
      go (inr (inr q)) = absurd (ord.begin_once i j h b q c (sym e))

  begun_found : (k j : ℕ) → j < length p.lines → is_begin (line_at p j) ≡ true → (line_at p j).operand ≡ k → begin_line p k ≤ j
  begun_found k j h b e = find_least (λ x. is_begin x && eqb x.operand k) p.lines j no_line h (and_from (is_begin (line_at p j)) (eqb (line_at p j).operand k) b (eq-eqb (line_at p j).operand k e))

  begin_found : (k : ℕ) → k < length p.activation → begin_line p k < length p.lines
  begin_found k h = go (cases_lt (begin_line p k) (length p.lines))
    where
      go : (begin_line p k < length p.lines) ⊎ (length p.lines ≤ begin_line p k) → begin_line p k < length p.lines
      go (inl q) = q
      go (inr q) = absurd (ord.all_begun k h (λ j b. (let r = begun_found k j b.0 b.1 b.2 in let s = b.0 in omega arith)))

  -- the span of a mechanism that is begun somewhere
  pub span_found : (k : ℕ) → begin_line p k < length p.lines → Span p k
  span_found k b-in =
      let b = begin_line p k in
      let b-is = and_parts (is_begin (line_at p b)) (eqb (line_at p b).operand k) (find_there (λ x. is_begin x && eqb x.operand k) p.lines no_line b-in) in
      let b_k : (line_at p b).operand ≡ k = eqb-true (line_at p b).operand k b-is.1 in
      let b-main = inside p b main_module sec.all_lines b-in (ord.begin_main b b-in b-is.0) in
      let opened : open_at p (b + 1) ≡ Some k = open_more p b b-main.0 b-in ∙ next_begin (line_at p b) (open_at p b) b-is.0 ∙ ap Some b_k in
      let w : Until p k (b + 1) = until (module_end p main_module - (b + 1)) (b + 1) k (let x = b-main.1 in omega arith) (let x = b-main.0 in omega arith) opened in
      go b-in b-is.0 b_k b-main.0 w
    where
      go : begin_line p k < length p.lines → is_begin (line_at p (begin_line p k)) ≡ true → (line_at p (begin_line p k)).operand ≡ k → module_first p main_module ≤ begin_line p k → Until p k (begin_line p k + 1) → Span p k
      go b-in b-is b_k b-from w =
          let b = begin_line p k in
          let w_in : w.e < length p.lines = inside_lines w.e w.to in
          let e = end_line p k in
          let least : e ≤ w.e = find_least (λ x. is_end x && eqb x.operand k) p.lines w.e no_line w_in (and_from (is_end (line_at p w.e)) (eqb (line_at p w.e).operand k) w.end_there (eq-eqb (line_at p w.e).operand k w.names)) in
          let e_in : e < length p.lines = omega arith in
          let e-is = and_parts (is_end (line_at p e)) (eqb (line_at p e).operand k) (find_there (λ x. is_end x && eqb x.operand k) p.lines no_line e_in) in
          let e_k : (line_at p e).operand ≡ k = eqb-true (line_at p e).operand k e-is.1 in
          let e-main = inside p e main_module sec.all_lines e_in (ord.end_main e e_in e-is.0) in
          let e_open : open_at p e ≡ Some k = ord.end_open e e_in e-is.0 ∙ ap Some e_k in
          let only : (j : ℕ) → module_first p main_module ≤ j → j ≤ module_end p main_module → open_at p j ≡ Some k → (b < j) × ((i : ℕ) → b < i → i < j → Quiet p i) = λ j x y o. same_begin j (since (j - module_first p main_module) j k (omega arith) y o) b-in b-is b_k y in
          let b_e : b < e = (only e e-main.0 (let x = e-main.1 in omega arith) e_open).0 in
          let e_w : e ≡ w.e = meet e b_e least e-is.0 (cases_order e w.e) in
          record {
            from = b-from;
            order = b_e;
            to = e-main.1;
            begin_there = b-is;
            begin_names = b_k;
            end_there = e-is.0;
            end_names = e_k;
            open_there = λ j x y. w.open_there j (omega arith) (omega arith);
            nowhere_else = λ j x y o. ((only j x y o).0, within j e-is.0 b_e (only j x y o).1 (cases_lt e j));
          }
        where
          same_begin : (j : ℕ) → Since p k j → begin_line p k < length p.lines → is_begin (line_at p (begin_line p k)) ≡ true → (line_at p (begin_line p k)).operand ≡ k → j ≤ module_end p main_module → (begin_line p k < j) × ((i : ℕ) → begin_line p k < i → i < j → Quiet p i)
          same_begin j s h b c y =
              let z = s.before in
              let q : s.b ≡ begin_line p k = begun_once s.b (begin_line p k) (inside_lines s.b (omega arith)) h s.begin_there b (s.names ∙ sym c) in
              (omega arith, λ i x y. s.quiet i (omega arith) y)

          meet : (e : ℕ) → begin_line p k < e → e ≤ w.e → is_end (line_at p e) ≡ true → (e ≡ w.e) ⊎ ((e < w.e) ⊎ (w.e < e)) → e ≡ w.e
          meet e x y z (inl q) = q
          meet e x y z (inr (inl q)) = absurd (both_ways (is_end (line_at p e)) (w.quiet e (omega arith) q).1 z)
          meet e x y z (inr (inr q)) = absurd (omega arith)

          within : (j : ℕ) → is_end (line_at p (end_line p k)) ≡ true → begin_line p k < end_line p k → ((i : ℕ) → begin_line p k < i → i < j → Quiet p i) → (end_line p k < j) ⊎ (j ≤ end_line p k) → j ≤ end_line p k
          within j x y f (inl q) = absurd (both_ways (is_end (line_at p (end_line p k))) (f (end_line p k) y q).1 x)
          within j x y f (inr q) = q

  pub span : (k : ℕ) → k < length p.activation → Span p k
  span k h = span_found k (begin_found k h)

  -- the span of the mechanism that begins at line l
  pub span_at : (l : ℕ) → l < length p.lines → is_begin (line_at p l) ≡ true → Span p (line_at p l).operand
  span_at l h b = span_found (line_at p l).operand (let r = begun_found (line_at p l).operand l h b refl in omega arith)
