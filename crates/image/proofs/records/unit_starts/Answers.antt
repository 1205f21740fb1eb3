use Rattle.std.proofs.Common.{◌/◌, [], map, length, get_or, sym, ap, ◌∙◌, rules, arith}
use Rattle.std.proofs.lemmas.Bool.{cases_eq}
use Rattle.std.proofs.lemmas.Grind.{common_steps}
use Rattle.std.proofs.lemmas.List.{get_or-map, get_or-set_same}
use Rattle.std.specs.Int.{w16, from_le_bytes}
use Rattle.rules.specs.Image.{pairs_from}
use Rattle.theory.proofs.Images.{pairs_length}
use Rattle.image.proofs.Pairs.{pairs_are, total_more}
use Rattle.image.proofs.records.unit_starts.Goals as goal

pub loop-i-preserved : goal.loop-i-preserved
loop-i-preserved c =
    let bytes = c.args.modules.now in
    let i = c.loop-i.i in
    let inv = c.loop-i.invariant in
    let few = c.as_chunks.ensures.front_len in
    let numbers = ap (map (from_le_bytes w16)) c.as_chunks.ensures.front ∙ pairs_are bytes (length bytes / 2) 0 in
    let number = sym (get_or-map (from_le_bytes w16) c.as_chunks.result.0.now i [] 0 c.loop-i-test.true) ∙ ap (λ ns. get_or ns i 0) numbers in
    let long = pairs_length bytes 0 (length bytes / 2) in
    let more = total_more (pairs_from bytes 0 (length bytes / 2)) i (omega arith) in
    (search rules, omega arith, omega arith, λ m h. grind (arith, common_steps, inv.3 m, get_or-set_same, cases_eq m i))
