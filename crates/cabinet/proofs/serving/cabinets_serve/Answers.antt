use Rattle.std.proofs.Common.{ℕ, ◌+◌, List, drop, vec_items, refl, arith, length-drop}
use Rattle.rules.specs.Cabinet.{Eight, Serving}
use Rattle.cabinet.specs.declared.eight.EightBytes.{EightBytes}
use Rattle.cabinet.specs.declared.stimulus.Stimulus.{Stimulus}
use Rattle.cabinet.specs.Meanings.{patch_meaning, stimulus_meaning}
use Rattle.cabinet.specs.Rows.{applied, due, next_number}
use Rattle.cabinet.proofs.Bytes.{applied_eight}
use Rattle.cabinet.proofs.Rows.{due_within}
use Rattle.cabinet.proofs.serving.cabinets_serve.Goals as goal

-- eight bytes as a cabinet holds them
abbrev held : (bytes : List ℕ) → Eight bytes → EightBytes
held bytes e = record { bytes = bytes; eight = e.eight; small = e.small }

patch_serves : Serving patch_meaning
patch_serves = record {
  sends = λ p bytes e. (record { inputs = p.inputs; terminals = held bytes e }, record { terminals_are = refl; inputs_stay = refl; rest_stays = tt });
  advances = λ p. (record { inputs = p.terminals; terminals = p.terminals }, record { terminals_stay = refl; inputs_are = refl; rest_moves = tt });
}

module _ (s : Stimulus) where
  abbrev sent : (bytes : List ℕ) → Eight bytes → Stimulus
  sent bytes e = record { rows = s.rows; cursor = s.cursor; number = s.number; inputs = s.inputs; terminals = held bytes e; within = s.within }

  abbrev advanced : Stimulus
  advanced =
      let n = next_number s.number in
      let left = drop s.cursor (vec_items s.rows) in
      record {
        rows = s.rows;
        cursor = s.cursor + due n left;
        number = n;
        inputs = held (applied n left s.inputs.bytes) (applied_eight n left s.inputs.bytes (record { eight = s.inputs.eight; small = s.inputs.small }));
        terminals = s.terminals;
        within = omega (arith, due_within n left, length-drop s.cursor (vec_items s.rows), s.rows.ok.0, s.within);
      }

stimulus_serves : Serving stimulus_meaning
stimulus_serves = record {
  sends = λ s bytes e. (sent s bytes e, record { terminals_are = refl; inputs_stay = refl; rest_stays = (refl, refl, refl) });
  advances = λ s. (advanced s, record { terminals_stay = refl; inputs_are = refl; rest_moves = (refl, refl, refl) });
}

pub returns : goal.returns
returns c = record { patch = patch_serves; stimulus = stimulus_serves }
