-- Lines that begin and end mechanisms, against the units of the lines and the first MECH_BEGIN of each mechanism. Assumes nothing.
use Rattle.std.proofs.Common.{◌≡◌, ℕ, ◌<◌, ◌≤◌, true, false, ◌&&◌, eqb, length, refl, ap, inl, inr, arith}
use Rattle.std.proofs.lemmas.Bool.{eqb-true, eq-eqb, and_from, and_parts, both_ways}
use Rattle.rules.specs.declared.line.Line.{Line}
use Rattle.rules.specs.declared.unit.UnitId.TheVariants.{Module}
use Rattle.rules.specs.Op.{is_begin, is_end}
use Rattle.rules.specs.Program.{Program, Own, no_line, line_at, main_module, begin_line}
use Rattle.rules.specs.Form.{Begun}
use Rattle.theory.proofs.Spans.{find_least, find_there}
use Rattle.theory.proofs.Units.{own_module}
use Rattle.text.specs.Mechanisms.{Unpaired}

ends_not_begins : (x : Line) → is_begin x ≡ true → is_end x ≡ false
ends_not_begins x h = ap (λ (c : ℕ). eqb c 23) (eqb-true x.code 22 h)

module _ (p : Program) (k : ℕ) where
  -- the first MECH_BEGIN of a mechanism, where one stands at or after it
  pub begun_by : (j : ℕ) → Begun p k j → begin_line p k ≤ j
  begun_by j (h, b, e) = find_least (λ x. is_begin x && eqb x.operand k) p.lines j no_line h (and_from (is_begin (line_at p j)) (eqb (line_at p j).operand k) b (eq-eqb (line_at p j).operand k e))

  -- a first MECH_BEGIN inside the text is one
  pub begun_there : begin_line p k < length p.lines → Begun p k (begin_line p k)
  begun_there h =
      let b = line_at p (begin_line p k) in
      let q = and_parts (is_begin b) (eqb b.operand k) (find_there (λ x. is_begin x && eqb x.operand k) p.lines no_line h) in
      (h, q.0, eqb-true b.operand k q.1)

module _ (p : Program) (l : ℕ) (inside : l < length p.lines) where
  pub bad_begin_again : is_begin (line_at p l) ≡ true → begin_line p (line_at p l).operand < l → Unpaired p l
  bad_begin_again b h = (inside, inl (b, inr (inr (begin_line p (line_at p l).operand, h, begun_there p (line_at p l).operand (omega arith)))))

  pub good_begin : is_begin (line_at p l) ≡ true → Own p (Module main_module) l → l ≤ begin_line p (line_at p l).operand → Unpaired p l → ⊥
  good_begin b o h (_, inl (_, inl n)) = n (own_module p main_module l o).0
  good_begin b o h (_, inl (_, inr (inl n))) = n ((own_module p main_module l o).1 refl)
  good_begin b o h (_, inl (_, inr (inr (j, g, d)))) = let q = begun_by p (line_at p l).operand j d in omega arith
  good_begin b o h (_, inr (e, _)) = both_ways (is_end (line_at p l)) (ends_not_begins (line_at p l) b) e
