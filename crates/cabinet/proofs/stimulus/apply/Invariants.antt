use Rattle.std.proofs.Common.{◌≡◌, ◌+◌, drop}
use Rattle.cabinet.specs.Rows.{applied, due}
use Rattle.cabinet.proofs.stimulus.apply.Given as goal

-- what is left to apply gives the same
abbrev pub invariant-loop-count : goal.invariant-loop-count
invariant-loop-count l =
    (applied l.number (drop l.count l.rows) l.inputs.bytes ≡ applied l.number l.rows l.initial.inputs.bytes)
    × (l.count + due l.number (drop l.count l.rows) ≡ due l.number l.rows)
