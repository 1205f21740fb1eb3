-- The first line at which a test holds, as a search over the lines or their numbers gives it. Assumes nothing.
use Rattle.std.proofs.Common.{◌≡◌, ℕ, ◌<◌, ◌≤◌, Bool, true, false, List, length, Some, None, Option, MatchOption, Bor, slice_index_or, arith}
use Rattle.std.specs.Bool.{⊤}
use Rattle.std.specs.Fn.{CalledAt}
use Rattle.std.specs.Iterator.{YieldsThen}
use Rattle.std.specs.List.{FoldsTo, HoldsAt, AllWithin}
use Rattle.std.proofs.iter.Yields.{nat_range_steps}
use Rattle.std.proofs.lemmas.Iterator.{first_from_Range}
use denote.Param.Members.{Mut}
use Rattle.rules.specs.declared.line.Line.{Line}
use Rattle.rules.specs.Program.{no_line}
use Rattle.text.specs.Finds.{Finds}

-- what a search over the numbers of the lines finds, by a test of P
pub finds_place : {F : Type 0} {g : Mut F (Bor ℕ × Unit {0}) Bool} (s u : _) (f : F) (r : Option ℕ) (P : ℕ → Type 0)
    → (xs : List ℕ) × (j : F) × YieldsThen nat_range_steps s xs r u × FoldsTo (λ p x q. CalledAt g p x false q) f xs j × MatchOption r ⊤ (λ x. (h : F) × CalledAt g j x true h)
    → s.start ≡ 0 → ((l : ℕ) → P l → l < s.end)
    → ((l : ℕ) (q : F) → CalledAt g f l true q → P l) → ((l : ℕ) (q : F) → CalledAt g f l false q → (q ≡ f) × (P l → ⊥)) → Finds P r
finds_place s u f r P ran zero within hit miss = go r (first_from_Range s u f r P (λ l. P l → ⊥) ran hit miss)
  where
    go : (o : Option ℕ) → MatchOption o ((l : ℕ) → s.start ≤ l → l < s.end → P l → ⊥) (λ i. (s.start ≤ i) × (i < s.end) × P i × ((l : ℕ) → s.start ≤ l → l < i → P l → ⊥)) → Finds P o
    go None h = λ l p. h l (omega arith) (within l p) p
    go (Some i) h = (h.2, λ l g. h.3 l (omega arith) g)

-- the first of the lines with Yes, where those before it have No
pub finds_line : (Yes No : Line → Type 0) → ((x : Line) → No x → Yes x → ⊥) → (xs : List Line) (r : Option ℕ) → MatchOption r (AllWithin No xs 0 (length xs)) (λ i. (i < length xs) × HoldsAt Yes xs i × AllWithin No xs 0 i) → Finds (λ l. (l < length xs) × Yes (slice_index_or xs l no_line)) r
finds_line Yes No apart xs None h = λ l p. apart (slice_index_or xs l no_line) (h l no_line (omega arith) p.0) p.1
finds_line Yes No apart xs (Some i) h = ((h.0, h.1 no_line), λ l g p. apart (slice_index_or xs l no_line) (h.2 l no_line (omega arith) g) p.1)
