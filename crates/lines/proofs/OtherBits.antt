-- A write changes the bit at its address, and no other. Assumes nothing.
use Rattle.std.proofs.Common.{◌≡◌, ℕ, suc, ◌+◌, ◌-◌, ◌*◌, ◌/◌, ◌%◌, ◌^◌, ◌<◌, Bool, true, false, eqb, ◌≢◌, get_or, refl, ap, inl, inr, arith}
use Rattle.std.specs.Int.{bit_at}
use Rattle.std.proofs.lemmas.Nat.{pow_pos, shr_split, mod_below, div-add-mod'}
use Rattle.std.proofs.lemmas.Nat.Bits.{bit_at_lowest, bit_at-suc, bit_at_cat_low, bit_at_cat_high}
use Rattle.std.proofs.lemmas.List.{get_or-set_same, get_or-set_other}
use Rattle.std.proofs.lemmas.Bool.{cases_eq, cases_order}
use Rattle.rules.specs.Number.{as_number, bit_of_byte, bit, with_bit}
use Rattle.lines.specs.OneBit.{OnlyThatBit}

module _ (b k v : ℕ) (small : v < 2) where
  low : b % 2 ^ k < 2 ^ k
  low = mod_below b (2 ^ k) (pow_pos k)

  -- the number b with v in the place of bit k
  abbrev put : ℕ
  put = b - bit_of_byte b k * 2 ^ k + v * 2 ^ k

  -- its bits from k up
  abbrev high : ℕ
  high = b / 2 ^ k / 2 * 2 + v

  put_is : put ≡ high * 2 ^ k + b % 2 ^ k
  put_is = omega (arith, shr_split b k, ap (λ (x : ℕ). x * 2 ^ k) (div-add-mod' (b / 2 ^ k) 2))

  at_k : bit_at put k ≡ v
  at_k =
      let none : k - k ≡ 0 = omega arith in
      grind (arith, put_is, bit_at_cat_high high k (b % 2 ^ k) k low (omega arith), none, bit_at_lowest high)

  at_other : (x : ℕ) → x ≢ k → bit_at put x ≡ bit_at b x
  at_other x ne = elim (cases_order x k) [
    | inl e ↦ absurd (ne e)
    | inr (inl l) ↦ grind (arith, put_is, shr_split b k, bit_at_cat_low high k (b % 2 ^ k) x l, bit_at_cat_low (b / 2 ^ k) k (b % 2 ^ k) x l)
    | inr (inr l) ↦ (let j : x - k ≡ suc (x - k - 1) = omega arith in
        let half : high / 2 ≡ b / 2 ^ k / 2 = omega arith in
        grind (arith, put_is, shr_split b k, j, half, bit_at_cat_high high k (b % 2 ^ k) x low (omega arith), bit_at_cat_high (b / 2 ^ k) k (b % 2 ^ k) x low (omega arith), bit_at-suc high (x - k - 1), bit_at-suc (b / 2 ^ k) (x - k - 1)))
  ]

number_below : (v : Bool) → as_number v < 2
number_below true = omega arith
number_below false = omega arith

number_is : (v : Bool) → eqb (as_number v) 1 ≡ v
number_is true = refl
number_is false = refl

pub only_that_bit : OnlyThatBit
only_that_bit bytes a v h = (same, other)
  where
    -- the byte written
    here : get_or (with_bit bytes a v) (a / 8) 0 ≡ put (get_or bytes (a / 8) 0) (a % 8) (as_number v) (number_below v)
    here = get_or-set_same bytes (a / 8) _ 0 (omega arith)

    same : bit (with_bit bytes a v) a ≡ v
    same = grind (arith, here, at_k (get_or bytes (a / 8) 0) (a % 8) (as_number v) (number_below v), number_is v)

    other : (x : ℕ) → (x ≡ a → ⊥) → bit (with_bit bytes a v) x ≡ bit bytes x
    other x ne = elim (cases_eq (x / 8) (a / 8)) [
      | inl e ↦ (let m : x % 8 ≢ a % 8 = λ k. ne (omega arith) in grind (arith, e, here, at_other (get_or bytes (a / 8) 0) (a % 8) (as_number v) (number_below v) (x % 8) m))
      | inr far ↦ ap (λ (y : ℕ). eqb (bit_of_byte y (x % 8)) 1) (get_or-set_other bytes (a / 8) (x / 8) _ 0 far)
    ]
