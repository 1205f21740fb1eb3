use Rattle.std.proofs.Common.{◌≡◌, ℕ, ◌<◌, true, false, length, get_or, refl, ◌∙◌, subst, arith, rules}
use Rattle.std.specs.List.{range_with_len}
use Rattle.std.proofs.lemmas.Bool.{MatchBool-at_true, MatchBool-at_false}
use Rattle.std.proofs.lemmas.Iterator.{cases_from_all, YieldsList-from_range}
use Rattle.std.proofs.lemmas.List.FromFn.{get_or-range_with_len, length-range_with_len}
use Rattle.walk.specs.UnitTexts.{program_of}
use Rattle.measures.specs.Meaning.{holds}
use Rattle.measures.proofs.survey.initialises_all.Goals as goal

pub returns : goal.returns
returns c =
    let u = c.args.unit.now in
    let set = c.in_ok-set.set in
    let n = c.len.result in
    let found = c.in_ok-set.ensures in
    let count : n ≡ length (program_of u).activation = omega (arith, c.len.ensures, u.formed.now.layout.program.activation.ok.0) in
    let long : length (range_with_len 0 n) ≡ n = length-range_with_len 0 n in
    let at : (k : ℕ) → k < n → get_or (range_with_len 0 n) k 0 ≡ k = λ k b. get_or-range_with_len 0 n k 0 b ∙ omega arith in
    let cases = cases_from_all _ _ c.all.result (λ (k : ℕ). holds set k ≡ true) (λ (k : ℕ). holds set k ≡ false) c.all.ensures.ran (YieldsList-from_range 0 n n refl (omega arith)) (λ x q k. search rules) (λ x q k. search rules) in
    record {
      on_no = λ e. (let no = MatchBool-at_false _ _ e cases in
          let b : no.0 < n = omega (arith, no.1, long) in
          let w = found.not_by_one no.0 (omega (arith, b, count)) (subst (λ (k : ℕ). holds set k ≡ false) (at no.0 b) (no.2 0)) in
          (no.0, w.0, omega (arith, b, count), w.1, w.2));
      on_yes = λ e left. (let b : left.0 < n = omega (arith, left.2, count) in
          left.4 (found.by_each left.0 left.2 (subst (λ (k : ℕ). holds set k ≡ true) (at left.0 b) (MatchBool-at_true _ _ e cases left.0 0 (omega arith) (omega (arith, b, long)))) left.1 left.3));
    }
