-- The phases of a block and their numbers. Assumes nothing.
use Rattle.std.specs.Prelude.{ℕ}
use Rattle.rules.specs.declared.session.Phase.{Phase}
use Rattle.rules.specs.declared.session.Phase.TheVariants.{Idle, Preparing, Moving, Closing}

-- the number by which a phase is known
abbrev pub phase_number : Phase → ℕ
phase_number Idle = 0
phase_number Preparing = 1
phase_number Moving = 2
phase_number Closing = 3
