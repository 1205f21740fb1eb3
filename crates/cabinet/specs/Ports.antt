-- What the eight ports of a cabinet answer and become. Assumes nothing.
use Rattle.std.specs.Prelude.{ℕ, cond, List, replicate, Ok, Err, Result, nat_lt, slice_index, slice_set}
use Rattle.rules.specs.declared.refusal.Rule as rules
use Rattle.cabinet.specs.declared.fault.PortFault.{PortFault}
use Rattle.cabinet.specs.declared.fault.PortFault.TheVariants.{PortAboveSeven}

-- the rule that a refused port breaks
abbrev pub rule_of_fault : PortFault → rules.Rule
rule_of_fault PortAboveSeven = rules.TheVariants.PortAboveSeven

-- what reading a port of eight bytes answers
abbrev pub answer_read : List ℕ → ℕ → Result ℕ PortFault
answer_read bytes port = cond (nat_lt port 8) (Ok (slice_index bytes port)) (Err PortAboveSeven)

-- what a write to a port answers
abbrev pub answer_write : ℕ → Result (Unit {0}) PortFault
answer_write port = cond (nat_lt port 8) (Ok tt) (Err PortAboveSeven)

-- eight bytes after a write of one of them; a port above 7 changes none
abbrev pub written : List ℕ → ℕ → ℕ → List ℕ
written bytes port byte = cond (nat_lt port 8) (slice_set bytes port byte) bytes

-- all bytes at the beginning
abbrev pub zeros : List ℕ
zeros = replicate 8 0
