-- Lists that are filled place by place. Assumes nothing.
use Rattle.std.proofs.Common.{◌≡◌, ℕ, zero, suc, ◌+◌, ◌<◌, List, [], ◌∷◌, ◌++◌, length, get_or, take, ap, ◌∙◌, add-one, arith, below_more}
use Rattle.std.proofs.lemmas.List.{get_or_append_left, get_or_push}
use Rattle.rules.specs.Program.{total}

-- one more element, as it should be
pub filled_more : {X Y : Type 0} (g : X → Y) (xs ys : List X) (x d : X) (n : ℕ) (F : ℕ → Y) → ys ≡ xs ++ x ∷ [] → length xs ≡ n → ((l : ℕ) → l < n → g (get_or xs l d) ≡ F l) → g x ≡ F n → (l : ℕ) → l < n + 1 → g (get_or ys l d) ≡ F l
filled_more g xs ys x d n F e h before now =
    below_more (λ (l : ℕ). g (get_or ys l d) ≡ F l) n (λ l q. ap (λ zs. g (get_or zs l d)) e ∙ ap g (get_or_append_left xs (x ∷ []) d l (omega arith)) ∙ before l q)
    (ap (λ zs. g (get_or zs n d)) e ∙ ap g (get_or_push xs x d n h) ∙ now)

-- one more number, added up
pub total-more : (ns : List ℕ) (i : ℕ) → i < length ns → total (take (i + 1) ns) ≡ total (take i ns) + get_or ns i 0
total-more [] i h = absurd (omega arith)
total-more (n ∷ ns) zero h = omega arith
total-more (n ∷ ns) (suc i) h = rw add-one (let q = rw add-one at (total-more ns i (omega arith)) in omega arith)
