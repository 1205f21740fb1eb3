-- The lines that the tables of a formed program name stand inside the text. Assumes nothing.
use Rattle.std.proofs.Common.{ℕ, ◌+◌, ◌<◌, ◌≤◌, ◌&&◌, Bool, true, false, cond, eqb, List, [], ◌∷◌, length, get_or, vec_items, vec_len, ap, arith}
use Rattle.std.proofs.lemmas.List.{get_or_default}
use Rattle.rules.specs.declared.line.Line.{Line}
use Rattle.rules.specs.Op.{is_begin, is_end}
use Rattle.rules.specs.Program.{find}
use Rattle.text.specs.declared.bracket.Bracket.{Bracket}
use Rattle.text.specs.Tables.{no_bracket}
use Rattle.text.specs.declared.formed.Formed.{Formed}

found_inside : (f : Line → Bool) (xs : List Line) → find f xs ≤ length xs
found_inside f [] = omega arith
found_inside f (x ∷ xs) = go (f x) (found_inside f xs)
  where
    go : (b : Bool) → find f xs ≤ length xs → cond b 0 (1 + find f xs) ≤ length (x ∷ xs)
    go true h = omega arith
    go false h = omega arith

module _ (formed : Formed) (k : ℕ) (d : Bracket) (real : k < vec_len formed.layout.program.activation) where
  -- a mechanism's MECH_BEGIN
  pub begin_inside : (get_or (vec_items formed.layout.brackets) k d).begin ≤ length (vec_items formed.layout.program.lines)
  begin_inside =
      let e = formed.layout.begins_are k (omega (arith, formed.layout.program.activation.ok.0)) in
      let h = ap (λ (b : Bracket). b.begin) (get_or_default (vec_items formed.layout.brackets) k d no_bracket (omega (arith, formed.layout.brackets.ok.0, formed.layout.brackets_count))) in
      omega (arith, found_inside (λ x. is_begin x && eqb x.operand k) (vec_items formed.layout.program.lines))

  -- and its MECH_END
  pub end_inside : (get_or (vec_items formed.layout.brackets) k d).end ≤ length (vec_items formed.layout.program.lines)
  end_inside =
      let e = formed.layout.ends_are k (omega (arith, formed.layout.program.activation.ok.0)) in
      let h = ap (λ (b : Bracket). b.end) (get_or_default (vec_items formed.layout.brackets) k d no_bracket (omega (arith, formed.layout.brackets.ok.0, formed.layout.brackets_count))) in
      omega (arith, found_inside (λ x. is_end x && eqb x.operand k) (vec_items formed.layout.program.lines))
