use Rattle.std.proofs.Common.{ℕ, ◌<◌, length, get_or, take, vec_items, ap, arith, rules}
use Rattle.rules.specs.Program.{total}
use Rattle.text.proofs.Filled.{filled_more, total-more}
use Rattle.text.proofs.tables.starts.Goals as goal

pub loop-length-preserved : goal.loop-length-preserved
loop-length-preserved c =
    let inv = c.loop-length.invariant in
    let ns = vec_items c.args.program.now.lengths in
    let i = c.loop-length.length-index in
    let many = c.args.program.now.lengths.ok.0 in
    let inside : i < length ns = (let s = c.deref-length-items.ensures.len in omega arith) in
    let more = total-more ns i inside in
    let long = c.loop-length.starts.ok.0 in
    (search rules, search rules, (let v = ap (λ ms. get_or ms i 0) c.deref-length-items.ensures.value in omega arith), filled_more (λ x. x) (vec_items c.loop-length.starts) _ c.loop-length.sum 0 i (λ (m : ℕ). total (take m ns)) c.in_ok-push.ensures.items (omega arith) inv.3 inv.2)
