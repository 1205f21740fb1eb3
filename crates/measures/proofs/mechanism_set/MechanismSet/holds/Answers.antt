use Rattle.std.proofs.Common.{ℕ, eqb, sym, ap, ◌∙◌, arith, w32, Fits, rules}
use Rattle.std.proofs.lemmas.Bool.{le-ltb, ne_eqb}
use Rattle.std.proofs.lemmas.Nat.Bits.{shr_and_one, bit_at_above}
use Rattle.measures.proofs.mechanism_set.MechanismSet.holds.Goals as goal

pub returns-then-k-lt32 : goal.returns-then-k-lt32
returns-then-k-lt32 c = ap (λ (x : ℕ). eqb x 1) (shr_and_one c.args.self.bits c.args.k)

pub returns-else-k-lt32 : goal.returns-else-k-lt32
returns-else-k-lt32 c =
    let k = c.args.k in
    let n = c.args.self.bits in
    let fits : Fits w32 n = search rules in
    let zero = bit_at_above n 32 k (omega (arith, fits)) c.if-k-lt32.false in
    le-ltb k 32 c.if-k-lt32.false ∙ sym (ne_eqb _ 1 (λ e. omega arith))
