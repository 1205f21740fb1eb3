use Rattle.std.proofs.Common.{◌≡◌, ℕ, ◌≤◌, refl, ◌∙◌, sym, arith, rules}
use Rattle.std.specs.List.{All, sum_by}
use Rattle.std.proofs.lemmas.List.Recursion.{is_sum_by}
use Rattle.std.proofs.lemmas.List.Elements.{All-from_get_or}
use Rattle.std.proofs.lemmas.List.Sums.{sum_by-le}
use Rattle.std.proofs.lemmas.Iterator.{YieldsList-from_slice, YieldsList-from_map}
use Rattle.std.proofs.lemmas.Iterator.Consumers.{fits_by_from_yields_list}
use Rattle.rules.specs.Program.{total}
use Rattle.text_tests.proofs.building.total.Goals as goal

pub sum-requires-clause-fits : goal.sum-requires-clause-fits
sum-requires-clause-fits c =
    let xs = c.args.lengths.now in
    let small : All (λ (n : ℕ). n ≤ 65535) xs = All-from_get_or (λ n. n ≤ 65535) xs 0 (λ i g. omega (arith, c.type_inv.lengths i)) in
    fits_by_from_yields_list (λ n. n) xs c.map.result _ (YieldsList-from_map _ (λ n. n) (YieldsList-from_slice xs cc) c.map.ensures.closure (λ x r q k. search rules)) (omega (arith, sum_by-le (λ n. n) 65535 xs small, c.requires))

pub returns : goal.returns
returns c =
    let e : c.sum.result ≡ sum_by (λ n. n) c.args.lengths.now = search rules in
    e ∙ sym (is_sum_by total (λ n. n) refl (λ _ _. refl) c.args.lengths.now)
