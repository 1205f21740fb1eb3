-- The null program's tables. Assumes nothing.
use Rattle.std.proofs.Common.{◌≡◌, ℕ, zero, suc, ◌<◌, Bool, List, [], length, get_or, take, replicate, sym, refl, ap, ◌∙◌, subst, arith}
use Rattle.rules.specs.declared.line.Line.{Line}
use Rattle.rules.specs.Program.{Program, null_program, total, module_first}
use Rattle.rules.specs.Verdict.{Breaks}
use Rattle.text.specs.declared.bracket.Bracket.{Bracket}
use Rattle.text.specs.declared.marks.Mark.{Mark}
use Rattle.text.specs.Tables.{Unbroken, StartsAre, BeginsAre, EndsAre, FlagsAre, UnitsAre}
use Rattle.theory.proofs.Null.{null_accepted}

-- a program with the null program's parts is the null program
pub same_null : (a b c : List ℕ) (d : List Line) → a ≡ replicate 17 0 → b ≡ [] → c ≡ replicate 7 0 → d ≡ [] → record { initial = a; activation = b; lengths = c; lines = d } ≡ null_program
same_null a b c d e f g h = λ i. record { initial = e i; activation = f i; lengths = g i; lines = h i }

no_total : (m n : ℕ) → total (take m (replicate n 0)) ≡ 0
no_total zero n = refl
no_total (suc m) zero = refl
no_total (suc m) (suc n) = let q = no_total m n in omega arith

no_entry : (m n : ℕ) → ◌≡◌ {A = ℕ} (get_or (replicate n 0) m 0) 0
no_entry m zero = refl
no_entry zero (suc n) = refl
no_entry (suc m) (suc n) = no_entry m n

module _ (p : Program) (e : p ≡ null_program) where
  pub null_unbroken : Unbroken p
  null_unbroken rule place h b = null_accepted.0.unbroken rule place (subst (λ (q : Program). Breaks q rule place) e b)

  pub null_starts : (starts : List ℕ) → starts ≡ replicate 8 0 → StartsAre p starts
  null_starts starts s m h = ap (λ (xs : List ℕ). get_or xs m 0) s ∙ no_entry m 8 ∙ sym (no_total m 7) ∙ ap (λ (q : Program). module_first q m) (sym e)

  none : (k : ℕ) → k < length p.activation → ⊥
  none k h = let q : length p.activation ≡ 0 = ap (λ (q : Program). length q.activation) e in omega arith

  no_line : (l : ℕ) → l < length p.lines → ⊥
  no_line l h = let q : length p.lines ≡ 0 = ap (λ (q : Program). length q.lines) e in omega arith

  pub null_begins : (brackets : List Bracket) → BeginsAre p brackets
  null_begins brackets k h = absurd (none k h)

  pub null_ends : (brackets : List Bracket) → EndsAre p brackets
  null_ends brackets k h = absurd (none k h)

  pub null_flags : (marks : List Mark) → FlagsAre p marks
  null_flags marks l h = absurd (no_line l h)

  pub null_units : (marks : List Mark) → UnitsAre p marks
  null_units marks l h = absurd (no_line l h)
