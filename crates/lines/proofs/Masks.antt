-- A bit of the data set by a mask. Assumes nothing.
use Rattle.std.proofs.Common.{◌≡◌, ℕ, ◌+◌, ◌-◌, ◌*◌, ◌%◌, ◌^◌, ◌<◌, ap, ◌∙◌, arith}
use lib.Bits.{bit_and, bit_or}
use Rattle.std.proofs.lemmas.Nat.{and_mask, and_comm, and_le_l, and-not, one_shl, mod_below, pow_below}
use Rattle.std.proofs.lemmas.Nat.Bits.{and_pow}
use Rattle.std.specs.Int.Bits.{or_add_and}
use Rattle.rules.specs.Number.{bit_of_byte}

pub or_bit : (b k : ℕ) → bit_or b (2 ^ k) ≡ b - bit_of_byte b k * 2 ^ k + 1 * 2 ^ k
or_bit b k = omega (arith, or_add_and b (2 ^ k), and_pow b k, and_le_l b (2 ^ k))

pub and_bit : (b k : ℕ) → b < 2 ^ 8 → k < 8 → bit_and b (255 - 2 ^ k) ≡ b - bit_of_byte b k * 2 ^ k + 0 * 2 ^ k
and_bit b k bl kl = omega (arith, and-not 8 (2 ^ k) b (pow_below k 8 kl) bl, and_comm b (255 - 2 ^ k), and_comm b (2 ^ k), and_pow b k)

-- the mask of an address
pub mask_is : (a : ℕ) → 1 * 2 ^ bit_and a 7 % 256 ≡ 2 ^ (a % 8)
mask_is a = ap (λ (k : ℕ). 1 * 2 ^ k % 2 ^ 8) (and_mask a 3) ∙ one_shl (a % 8) 8 (mod_below a 8 (omega arith))
