use Rattle.std.proofs.Common.{◌≡◌, ◌<◌, true, vec_items, vec_len, sym, ap, ◌∙◌, inl, inr, arith, rules}
use Rattle.std.proofs.lemmas.Bool.{ltb-true, lt-ltb, cases_lt}
use Rattle.std.proofs.lemmas.List.{get_or_read}
use Rattle.rules.specs.Op.{is_begin}
use Rattle.rules.specs.Program.{line_at, begin_line}
use Rattle.image.specs.Held.{meant}
use Rattle.text.specs.declared.bracket.Bracket.{Bracket}
use Rattle.text.specs.Tables.{no_bracket}
use Rattle.text.proofs.Breaches.{named_by}
use Rattle.text.proofs.Pairing.{bad_begin_again, good_begin}
use Rattle.text.proofs.layout.Layout.is_unpaired.Goals as goal
use Rattle.text.proofs.layout.Layout.is_unpaired.Goals.{Then-is}

-- the line is MECH_BEGIN, and names a mechanism of the program
module _ (c : Then-is) where
  begins : is_begin (line_at (meant c.args.self.now.program) c.args.place) ≡ true
  begins = ap is_begin (sym c.in-Some.ensures.1) ∙ sym c.if-is.ensures

  number : c.from-k.result ≡ (line_at (meant c.args.self.now.program) c.args.place).operand
  number = c.from-k.ensures ∙ ap (λ x. x.operand) c.in-Some.ensures.1

  below : c.from-k.result < vec_len c.args.self.now.program.activation
  below =
      let s = c.args.self.now in
      let h = named_by (meant s.program) s.keeps c.args.place c.in-Some.ensures.0 begins in
      omega (arith, number, s.program.activation.ok.0)

pub index-requires : goal.index-requires
index-requires c = omega (arith, below (goal.at.index-requires c).Then-is, c.args.self.now.brackets_count)

pub returns-else-ne : goal.returns-else-ne
returns-else-ne c =
    let d = (goal.at.returns-else-ne c).Then-is in
    let p = meant c.args.self.now.program in
    let l = c.args.place in
    let s = c.args.self.now in
    let inside = c.in-Some.ensures.0 in
    let first : c.index.result.now.begin ≡ begin_line p (line_at p l).operand = ap (λ (b : Bracket). b.begin) (get_or_read (vec_items s.brackets) c.from-k.result c.index.result.now (omega (arith, below d, s.brackets_count, s.brackets.ok.0)) c.index.ensures no_bracket) ∙ s.begins_are c.from-k.result (omega (arith, below d, s.program.activation.ok.0)) ∙ ap (begin_line p) (number d) in (
      (λ t. bad_begin_again p l inside (begins d) (omega (arith, first, ltb-true c.index.result.now.begin l t))),
      (λ u. elim (cases_lt c.index.result.now.begin l) [ inl h ↦ lt-ltb c.index.result.now.begin l h | inr h ↦ absurd (good_begin p l inside (begins d) (record { within = inside; part = search rules }) (omega (arith, first)) u) ]),
    )
