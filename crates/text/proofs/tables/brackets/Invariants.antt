use Rattle.std.proofs.Common.{◌≡◌, ◌&&◌, eqb, vec_items, vec_len}
use Rattle.rules.specs.declared.op.Mnemonic.TheVariants as name
use Rattle.rules.specs.Op.{is}
use Rattle.text.proofs.Firsts.{Firsts}
use Rattle.text.proofs.tables.brackets.Given as goal

abbrev pub invariant-loop-place : goal.invariant-loop-place
invariant-loop-place l =
    let xs = vec_items l.program.lines in
    let bs = vec_items l.brackets in
    let m = vec_len l.program.activation in
    (vec_len l.brackets ≡ m) × Firsts (λ b. b.begin) (λ k x. is name.MechBegin x && eqb x.operand k) xs bs m l.place × Firsts (λ b. b.end) (λ k x. is name.MechEnd x && eqb x.operand k) xs bs m l.place
