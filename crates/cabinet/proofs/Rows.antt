-- One row more, and the row that stops. Assumes nothing.
use Rattle.std.proofs.Common.{◌≡◌, ℕ, suc, ◌+◌, ◌<◌, ◌≤◌, Bool, true, false, cond, leb, List, [], ◌∷◌, length, get_or, drop, sym, ap, ◌∙◌, arith, le-leb}
use borrow.Author.Tests.{lt-leb}
use Rattle.std.proofs.lemmas.List.{drop_more}
use Rattle.cabinet.specs.declared.row.Row.{Row}
use Rattle.cabinet.specs.Ports.{written}
use Rattle.cabinet.specs.Rows.{applied, due}

module _ (rows : List Row) (i : ℕ) (row : Row) (n : ℕ) (within : i < length rows) (is : row ≡ get_or rows i row) where
  abbrev rest : List Row
  rest = drop (i + 1) rows

  left : drop i rows ≡ row ∷ rest
  left = drop_more rows i row within ∙ ap (λ r. r ∷ rest) (sym is)

  pub applied_more : (inputs : List ℕ) → row.scan ≤ n → applied n (drop i rows) inputs ≡ applied n rest (written inputs row.port row.byte)
  applied_more inputs h = ap (λ rs. applied n rs inputs) left ∙ ap (λ b. cond b (applied n rest (written inputs row.port row.byte)) inputs) (le-leb _ _ h)

  pub applied_stop : (inputs : List ℕ) → n < row.scan → applied n (drop i rows) inputs ≡ inputs
  applied_stop inputs h = ap (λ rs. applied n rs inputs) left ∙ ap (λ b. cond b (applied n rest (written inputs row.port row.byte)) inputs) (lt-leb _ _ h)

  pub due_more : row.scan ≤ n → due n (drop i rows) ≡ suc (due n rest)
  due_more h = ap (due n) left ∙ ap (λ b. cond b (suc (due n rest)) 0) (le-leb _ _ h)

  pub due_stop : n < row.scan → due n (drop i rows) ≡ 0
  due_stop h = ap (due n) left ∙ ap (λ b. cond b (suc (due n rest)) 0) (lt-leb _ _ h)

-- no more rows are due than there are
pub due_within : (n : ℕ) (rows : List Row) → due n rows ≤ length rows
due_within n [] = omega arith
due_within n (r ∷ rows) = go (leb r.scan n) (due_within n rows)
  where
    go : (t : Bool) → due n rows ≤ length rows → cond t (suc (due n rows)) 0 ≤ suc (length rows)
    go true h = omega arith
    go false h = omega arith
