-- The kinds of lines, by their codes. Assumes nothing.
use Rattle.std.proofs.Common.{◌≡◌, true, false, ◌||◌, eqb, ap, ⊎_elim}
use Rattle.std.proofs.lemmas.Bool.{eqb-true, or_cases}
use Rattle.rules.specs.declared.line.Line.{Line}
use Rattle.rules.specs.Op.{is_begin, is_exit}

-- no line is both EX-type and MECH_BEGIN
pub exits_begins : (x : Line) → is_exit x ≡ true → is_begin x ≡ false
exits_begins x h =
    ⊎_elim (λ e. ap (λ n. eqb n 22) (eqb-true x.code 11 e))
    (λ e. ⊎_elim (λ e. ap (λ n. eqb n 22) (eqb-true x.code 12 e)) (λ e. ap (λ n. eqb n 22) (eqb-true x.code 13 e)) (or_cases (eqb x.code 12) (eqb x.code 13) e))
    (or_cases (eqb x.code 11) (eqb x.code 12 || eqb x.code 13) h)
