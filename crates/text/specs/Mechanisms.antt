-- The lines that begin and end mechanisms. Assumes nothing.
use Rattle.std.specs.Prelude.{◌≡◌, ℕ, ◌<◌, true, ◌⊎◌, length}
use Rattle.rules.specs.Op.{is_begin}
use Rattle.rules.specs.Program.{Program, line_at}
use Rattle.rules.specs.Form.{Begun, IsBadBegin, IsBadEnd}

-- every MECH_BEGIN names a mechanism that the program has
abbrev pub Named : Program → Type 0
Named p = (l : ℕ) → l < length p.lines → is_begin (line_at p l) ≡ true → (line_at p l).operand < length p.activation

-- line l begins or ends a mechanism against the rule
abbrev pub Unpaired : Program → ℕ → Type 0
Unpaired p l = (l < length p.lines) × (IsBadBegin p l ⊎ IsBadEnd p l)

-- some mechanism is begun nowhere
abbrev pub Misses : Program → Type 0
Misses p = (k : ℕ) × (k < length p.activation) × ((j : ℕ) → Begun p k j → ⊥)
