-- What the two cabinets mean. Assumes nothing.
use Rattle.std.specs.Prelude.{◌≡◌, ◌+◌, drop, vec_items}
use Rattle.rules.specs.Cabinet.{Meaning}
use Rattle.cabinet.specs.declared.patch.Patch.{Patch}
use Rattle.cabinet.specs.declared.stimulus.Stimulus.{Stimulus}
use Rattle.cabinet.specs.Rows.{applied, due, next_number}

-- the patch cabinet: an advance copies each terminal to the input of that number, and there is nothing besides the bytes
abbrev pub patch_meaning : Meaning Patch
patch_meaning = record {
  inputs = λ p. p.inputs.bytes;
  terminals = λ p. p.terminals.bytes;
  coming = λ p. p.terminals.bytes;
  keeps = λ p q. Unit {0};
  moves = λ p q. Unit {0};
}

-- the stimulus cabinet: an advance goes to the next number and applies the rows that are due then; a write keeps rows, cursor and number
abbrev pub stimulus_meaning : Meaning Stimulus
stimulus_meaning = record {
  inputs = λ s. s.inputs.bytes;
  terminals = λ s. s.terminals.bytes;
  coming = λ s. applied (next_number s.number) (drop s.cursor (vec_items s.rows)) s.inputs.bytes;
  keeps = λ s t. (t.rows ≡ s.rows) × (t.cursor ≡ s.cursor) × (t.number ≡ s.number);
  moves = λ s t. (t.rows ≡ s.rows) × (t.cursor ≡ s.cursor + due (next_number s.number) (drop s.cursor (vec_items s.rows))) × (t.number ≡ next_number s.number);
}
