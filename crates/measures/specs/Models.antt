-- The measures: steps, depth, initialised mechanisms, and two carried together. Assumes nothing.
use Rattle.std.specs.Prelude.{ℕ, ◌+◌, ◌-◌, ◌^◌, min, cond, ◌&&◌, ◌||◌, List, ℤ, pos, negsuc, ◌+ℤ◌, ◌==◌, bit_and, bit_or, nat_lt, slice_index}
use Rattle.std.specs.Int.{int_min, int_max, saturate_to_bits}
use Rattle.rules.specs.declared.line.Line.{Line}
use Rattle.rules.specs.declared.op.Mnemonic.TheVariants as name
use Rattle.rules.specs.Op.{is, is_begin, is_init}
use Rattle.measures.specs.declared.mechanism_set.MechanismSet.{MechanismSet}
use Rattle.text.specs.declared.marks.Mark.{Mark}
use Rattle.text.specs.Marks.{mark_at}

-- what a line adds to the steps beside itself: the bound of the mechanism that it begins
abbrev pub bound_of : List ℕ → Line → ℕ
bound_of bounds x = cond (is_begin x) (slice_index bounds x.operand) 0

-- the steps after a line: one more, and the bound of the mechanism that it begins; the sum stops at the end of its range
abbrev pub steps_after : List ℕ → ℕ → Line → ℕ → ℕ
steps_after bounds l x v = min (v + 1 + bound_of bounds x) (2 ^ 32 - 1)

-- what a line adds to the depth: LDR pushes where the text flag is set, and LA, LO and LX pop at mode 2
abbrev pub change_of : List Mark → ℕ → Line → ℤ
change_of marks l x = cond (is name.Ldr x && (mark_at marks l).flag) (pos 1) (cond (x.mode == 2 && (is name.La x || is name.Lo x || is name.Lx x)) (negsuc 0) (pos 0))

-- the lowest and the highest depth after a line; the sums stop at the ends of their range
abbrev pub depths_after : List Mark → ℕ → Line → ℤ × ℤ → ℤ × ℤ
depths_after marks l x v = (saturate_to_bits 31 (v.0 +ℤ change_of marks l x), saturate_to_bits 31 (v.1 +ℤ change_of marks l x))

-- the lower of two lowest and the higher of two highest
abbrev pub wider : ℤ × ℤ → ℤ × ℤ → ℤ × ℤ
wider a b = (int_min a.0 b.0, int_max a.1 b.1)

-- the set whose mechanisms are the bits of a number
abbrev pub set_of : ℕ → MechanismSet
set_of n = record { bits = n }

-- the bit of a mechanism; there are 32 at most
abbrev pub bit_of : ℕ → ℕ
bit_of k = cond (nat_lt k 32) (2 ^ k) 0

-- the bit of the mechanism that a line initialises
abbrev pub initialised_by : Line → ℕ
initialised_by x = cond (is_init x) (bit_of x.operand) 0

-- the initialised mechanisms after a line
abbrev pub set_after : ℕ → Line → MechanismSet → MechanismSet
set_after l x v = set_of (bit_or v.bits (initialised_by x))

-- the mechanisms in both of two sets
abbrev pub in_both : MechanismSet → MechanismSet → MechanismSet
in_both a b = set_of (bit_and a.bits b.bits)

-- two joins, each on its own part of a pair
abbrev pub paired : {X Y : Type 0} → (X → X → X) → (Y → Y → Y) → X × Y → X × Y → X × Y
paired f g a b = (f a.0 b.0, g a.1 b.1)

-- two effects, each on its own part of a pair
abbrev pub beside : {X Y : Type 0} → (ℕ → Line → X → X) → (ℕ → Line → Y → Y) → ℕ → Line → X × Y → X × Y
beside f g l x v = (f l x v.0, g l x v.1)
