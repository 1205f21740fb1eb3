-- The first line that begins or ends each mechanism, found from the last line back. Assumes nothing.
use Rattle.std.proofs.Common.{◌≡◌, ℕ, ◌+◌, ◌<◌, ◌≤◌, Bool, true, false, cond, List, [], ◌∷◌, length, drop, arith}
use Rattle.rules.specs.declared.line.Line.{Line}
use Rattle.rules.specs.Program.{find}
use Rattle.text.specs.declared.bracket.Bracket.{Bracket}
use Rattle.text.specs.Tables.{bracket_at}

-- a field of the brackets of m mechanisms is right for the lines from i on: the first of them that names the mechanism
abbrev pub Firsts : (Bracket → ℕ) → (ℕ → Line → Bool) → List Line → List Bracket → ℕ → ℕ → Type 0
Firsts field names xs brackets m i = (k : ℕ) → k < m → field (bracket_at brackets k) ≡ i + find (names k) (drop i xs)

-- a first line is found inside the text, or at its end
pub find_within : (f : Line → Bool) (xs : List Line) → find f xs ≤ length xs
find_within f [] = omega arith
find_within f (x ∷ xs) = go (f x) (find_within f xs)
  where
    go : (b : Bool) → find f xs ≤ length xs → cond b 0 (1 + find f xs) ≤ length (x ∷ xs)
    go true ih = omega arith
    go false ih = omega arith
