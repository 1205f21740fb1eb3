-- What a write of a bit changes. Assumes nothing.
use Rattle.std.specs.Prelude.{◌≡◌, ℕ, ◌*◌, ◌<◌, Bool, List, length, ◌≢◌}
use Rattle.rules.specs.Number.{bit, with_bit}

-- the bit written has the value, and every other bit is as it was
abbrev pub OnlyThatBit : Type 0
OnlyThatBit = (bytes : List ℕ) (a : ℕ) (v : Bool) → a < 8 * length bytes → (bit (with_bit bytes a v) a ≡ v) × ((x : ℕ) → (x ≢ a) → bit (with_bit bytes a v) x ≡ bit bytes x)
