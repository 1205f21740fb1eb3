-- One more line marked with its unit and its text flag. Assumes nothing.
use Rattle.std.proofs.Common.{◌≡◌, ℕ, ◌+◌, ◌<◌, ◌≤◌, Bool, false, eqb, List, [], ◌∷◌, ◌++◌, length, None, Option, sym, refl, ap, ◌∙◌, arith}
use Rattle.std.proofs.lemmas.List.{length_push}
use Rattle.std.proofs.lemmas.Bool.{eq-eqb, ne_eqb, cond-true, cond-false}
use Rattle.rules.specs.declared.line.Line.{Line}
use Rattle.rules.specs.declared.unit.UnitId.TheVariants.{Module}
use Rattle.rules.specs.Program.{Program, line_at, no_line, main_module, module_first, module_of, open_after, flag_after, stretch, open_at, main_or, unit_of, flag_at}
use Rattle.theory.proofs.Text.{stretch_more, open_push}
use Rattle.rules.specs.Named.{unit_named}
use Rattle.text.specs.declared.marks.Mark.{Mark}
use Rattle.text.specs.Marks.{no_mark, Marked}
use Rattle.text.proofs.Filled.{filled_more}

pub marked_more : (p : Program) (ms ns : List Mark) (i : ℕ) (x : Mark) → Marked p ms i → ns ≡ ms ++ x ∷ [] → unit_named x.unit ≡ unit_of p i → x.flag ≡ flag_at p i → Marked p ns (i + 1)
marked_more p ms ns i x h e ui fi =
    let a = h.count in
    record {
      count = ap length e ∙ length_push ms x ∙ omega arith;
      units_are = filled_more (λ m. unit_named m.unit) ms ns x no_mark i (unit_of p) e a h.units_are ui;
      flags_are = filled_more (λ m. m.flag) ms ns x no_mark i (flag_at p) e a h.flags_are fi;
    }

flag_push : (b : Bool) (xs : List Line) (x : Line) → flag_after b (xs ++ x ∷ []) ≡ flag_after (flag_after b xs) (x ∷ [])
flag_push b [] x = refl
flag_push b (y ∷ ys) x = flag_push (flag_after b (y ∷ [])) ys x

module _ (p : Program) (first i : ℕ) (x : Line) (from : first ≤ i) (inside : i < length p.lines) (there : x ≡ line_at p i) where
  more : stretch p.lines first (i + 1) ≡ stretch p.lines first i ++ x ∷ []
  more = stretch_more p.lines first i no_line from inside ∙ ap (λ y. stretch p.lines first i ++ y ∷ []) (sym there)

  pub opened_more : (o : Option ℕ) → o ≡ open_after None (stretch p.lines first i) → open_after o (x ∷ []) ≡ open_after None (stretch p.lines first (i + 1))
  opened_more o e = ap (λ q. open_after q (x ∷ [])) e ∙ sym (open_push None (stretch p.lines first i) x) ∙ ap (open_after None) (sym more)

  pub flagged_more : (b : Bool) → b ≡ flag_after false (stretch p.lines first i) → flag_after b (x ∷ []) ≡ flag_after false (stretch p.lines first (i + 1))
  flagged_more b e = ap (λ q. flag_after q (x ∷ [])) e ∙ sym (flag_push false (stretch p.lines first i) x) ∙ ap (flag_after false) (sym more)

module _ (p : Program) (m i : ℕ) (in-module : module_of p.lengths i ≡ m) where
  pub unit_in_main : (o : Option ℕ) → m ≡ main_module → o ≡ open_after None (stretch p.lines (module_first p m) i) → main_or o ≡ unit_of p i
  unit_in_main o e h = ap main_or (h ∙ ap (λ (n : ℕ). open_after None (stretch p.lines (module_first p n) i)) e) ∙ sym (cond-true (eqb (module_of p.lengths i) main_module) (main_or (open_at p i)) (Module (module_of p.lengths i)) (eq-eqb (module_of p.lengths i) main_module (in-module ∙ e)))

  pub unit_elsewhere : (m ≡ main_module → ⊥) → Module m ≡ unit_of p i
  unit_elsewhere n = ap Module (sym in-module) ∙ sym (cond-false (eqb (module_of p.lengths i) main_module) (main_or (open_at p i)) (Module (module_of p.lengths i)) (ne_eqb (module_of p.lengths i) main_module (λ e. n (sym in-module ∙ e))))

  pub flag_is : (b : Bool) → b ≡ flag_after false (stretch p.lines (module_first p m) i) → b ≡ flag_at p i
  flag_is b h = h ∙ ap (λ (n : ℕ). flag_after false (stretch p.lines (module_first p n) i)) (sym in-module)
