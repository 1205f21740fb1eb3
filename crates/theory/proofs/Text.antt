-- The text of a program: where its modules stand, and which mechanism is open where. Assumes nothing.
use Rattle.std.proofs.Common.{◌≡◌, ℕ, zero, suc, ◌+◌, ◌-◌, ◌<◌, ◌≤◌, Bool, true, false, cond, ltb, List, [], ◌∷◌, ◌++◌, length, get_or, take, drop, Some, None, Option, sym, refl, ap, ◌∙◌, subst, add-one, one-add, arith}
use Rattle.std.proofs.lemmas.Bool.{ltb-true, ltb-false, lt-ltb, le-ltb, cond-true, cond-false}
use Rattle.std.proofs.lemmas.List.{take_more, get_or-drop, length-drop}
use Rattle.rules.specs.declared.line.Line.{Line}
use Rattle.rules.specs.Op.{is_begin, is_end}
use Rattle.rules.specs.Program.{Program, no_line, line_at, total, main_module, module_first, module_end, module_of, open_after, stretch, open_at}
use Rattle.rules.specs.Image.{module_section}
use Rattle.rules.specs.Form.{Shaped}

-- MODULES

-- the seven modules are there
pub named : (p : Program) → Shaped p → (t : ℕ) → t < 7 → t < length p.lengths
named p sh t h = let c = (sh.counts module_section).0 in omega arith

module_low : (ns : List ℕ) (l : ℕ) → l < total ns → total (take (module_of ns l) ns) ≤ l
module_low [] l h = absurd (omega arith)
module_low (n ∷ ns) l h = go (ltb l n) refl (module_low ns (l - n))
  where
    go : (b : Bool) → ltb l n ≡ b → (l - n < total ns → total (take (module_of ns (l - n)) ns) ≤ l - n) → total (take (cond b 0 (1 + module_of ns (l - n))) (n ∷ ns)) ≤ l
    go true e ih = omega arith
    go false e ih = rw one-add (let q : n ≤ l = ltb-false l n e in let r = ih (omega arith) in omega arith)

module_high : (ns : List ℕ) (l : ℕ) → l < total ns → l < total (take (suc (module_of ns l)) ns)
module_high [] l h = absurd (omega arith)
module_high (n ∷ ns) l h = go (ltb l n) refl (module_high ns (l - n))
  where
    go : (b : Bool) → ltb l n ≡ b → (l - n < total ns → l - n < total (take (suc (module_of ns (l - n))) ns)) → l < n + total (take (cond b 0 (1 + module_of ns (l - n))) ns)
    go true e ih = let q : l < n = ltb-true l n e in omega arith
    go false e ih = rw one-add (let q : n ≤ l = ltb-false l n e in let r = ih (omega arith) in omega arith)

module_known : (ns : List ℕ) (m l : ℕ) → m < length ns → total (take m ns) ≤ l → l < total (take (suc m) ns) → module_of ns l ≡ m
module_known [] m l h a b = absurd (omega arith)
module_known (n ∷ ns) zero l h a b = cond-true (ltb l n) 0 (1 + module_of ns (l - n)) (lt-ltb l n (omega arith))
module_known (n ∷ ns) (suc m) l h a b =
    let q : n ≤ l = omega arith in
    cond-false (ltb l n) 0 (1 + module_of ns (l - n)) (le-ltb l n q) ∙ (rw one-add (ap suc (module_known ns m (l - n) (omega arith) (omega arith) (omega arith))))

sum-take_more : (ns : List ℕ) (m : ℕ) → total (take m ns) ≤ total (take (suc m) ns)
sum-take_more [] zero = omega arith
sum-take_more [] (suc m) = omega arith
sum-take_more (n ∷ ns) zero = omega arith
sum-take_more (n ∷ ns) (suc m) = let r = sum-take_more ns m in omega arith

sum-take : (ns : List ℕ) (m : ℕ) → total (take m ns) ≤ total ns
sum-take ns zero = omega arith
sum-take [] (suc m) = omega arith
sum-take (n ∷ ns) (suc m) = let r = sum-take ns m in omega arith

module _ (p : Program) where
  pub first_end : (m : ℕ) → module_first p m ≤ module_end p m
  first_end m = rw add-one (sum-take_more p.lengths m)

  pub end_within : (m : ℕ) → total p.lengths ≡ length p.lines → module_end p m ≤ length p.lines
  end_within m e = rw e at (sum-take p.lengths (m + 1))

  pub inside : (l m : ℕ) → total p.lengths ≡ length p.lines → l < length p.lines → module_of p.lengths l ≡ m → (module_first p m ≤ l) × (l < module_end p m)
  inside l m e h q =
      let g : l < total p.lengths = omega arith in
      (subst (λ (x : ℕ). total (take x p.lengths) ≤ l) q (module_low p.lengths l g), subst (λ (x : ℕ). l < total (take x p.lengths)) (ap suc q ∙ sym (add-one m)) (module_high p.lengths l g))

  pub module_is : (l m : ℕ) → m < length p.lengths → module_first p m ≤ l → l < module_end p m → module_of p.lengths l ≡ m
  module_is l m h a b = module_known p.lengths m l h a (rw add-one at b)

-- MECHANISMS

abbrev pub open_next : Line → Option ℕ → Option ℕ
open_next x o = cond (is_begin x) (Some x.operand) (cond (is_end x) None o)

pub open_push : (o : Option ℕ) (xs : List Line) (x : Line) → open_after o (xs ++ x ∷ []) ≡ open_next x (open_after o xs)
open_push o [] x = refl
open_push o (y ∷ ys) x = open_push (open_next y o) ys x

pub stretch_more : {A : Type 0} (xs : List A) (f l : ℕ) (d : A) → f ≤ l → l < length xs → stretch xs f (l + 1) ≡ stretch xs f l ++ get_or xs l d ∷ []
stretch_more xs f l d h g =
    let q : l + 1 - f ≡ (l - f) + 1 = omega arith in
    let r : f + (l - f) ≡ l = omega arith in
    ap (λ (n : ℕ). take n (drop f xs)) q ∙ take_more (drop f xs) (l - f) d (rw length-drop (omega arith)) ∙ ap (λ (x : _). take (l - f) (drop f xs) ++ x ∷ []) (get_or-drop f xs (l - f) d ∙ ap (λ (n : ℕ). get_or xs n d) r)

pub open_more : (p : Program) (l : ℕ) → module_first p main_module ≤ l → l < length p.lines → open_at p (l + 1) ≡ open_next (line_at p l) (open_at p l)
open_more p l h g = ap (open_after None) (stretch_more p.lines (module_first p main_module) l no_line h g) ∙ open_push None (stretch p.lines (module_first p main_module) l) (line_at p l)

pub open_first : (p : Program) → open_at p (module_first p main_module) ≡ None
open_first p = let q : module_first p main_module - module_first p main_module ≡ 0 = omega arith in ap (λ (n : ℕ). open_after None (take n (drop (module_first p main_module) p.lines))) q
