use Rattle.std.proofs.Common.{◌≡◌, ℕ, ◌/◌, List, map, length, vec_items, subst, ap, ◌∙◌, rules}
use Rattle.std.specs.Result.{IfOk}
use Rattle.std.proofs.lemmas.Iterator.{YieldsList-from_slice, YieldsList-from_map, items_from_collect}
use Rattle.rules.specs.declared.line.Line.{Line}
use Rattle.rules.specs.Image.{line_from}
use Rattle.image.proofs.Pairs.{lines_are}
use Rattle.image.proofs.making.read_lines.Goals as goal

pub returns : goal.returns
returns c =
    let lines = ap (λ (rs : List (List ℕ)). map (λ r. line_from r 0) rs) c.as_chunks.ensures.front ∙ lines_are c.args.bytes.now (length c.args.bytes.now / 4) 0 in
    subst (λ (l : List Line). IfOk c.collect.result (λ v. vec_items v ≡ l)) lines
    (items_from_collect c.collect.result c.collect.ensures.ran (YieldsList-from_map _ (λ r. line_from r 0) (YieldsList-from_slice c.as_chunks.result.0.now cc) c.map.ensures.closure (λ x r q k. search rules)))
