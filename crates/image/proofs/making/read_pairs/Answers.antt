use Rattle.std.proofs.Common.{◌≡◌, ℕ, ◌/◌, List, length, vec_items, subst, rules}
use Rattle.std.specs.Result.{IfOk}
use Rattle.image.proofs.Pairs.{pairs_are}
use Rattle.image.proofs.making.read_pairs.Goals as goal

pub returns : goal.returns
returns c = subst (λ (l : List ℕ). IfOk c.collect.result (λ v. vec_items v ≡ l)) (pairs_are c.args.bytes.now (length c.args.bytes.now / 2) 0) (search rules)
