-- The stack of bits as a list, the newest cell first. Assumes nothing.
use Rattle.std.proofs.Common.{◌≡◌, ℕ, ◌+◌, ◌-◌, ◌<◌, ◌≤◌, Bool, List, [], ◌∷◌, reverse, length, get_or, take, set, ap, ◌∙◌, arith}
use Rattle.std.proofs.lemmas.List.{take_more, take_more_set, reverse-append}

pub pushes : (xs : List Bool) (i : ℕ) (x : Bool) → i < length xs → reverse (take (i + 1) (set xs i x)) ≡ x ∷ reverse (take i xs)
pushes xs i x h = ap reverse (take_more_set xs i x h) ∙ reverse-append (take i xs) (x ∷ [])

pub pops : (xs : List Bool) (n : ℕ) (d : Bool) → 0 < n → n ≤ length xs → reverse (take n xs) ≡ get_or xs (n - 1) d ∷ reverse (take (n - 1) xs)
pops xs n d h l =
    let e : n ≡ n - 1 + 1 = omega arith in
    ap (λ (k : ℕ). reverse (take k xs)) e ∙ ap reverse (take_more xs (n - 1) d (omega arith)) ∙ reverse-append (take (n - 1) xs) (get_or xs (n - 1) d ∷ [])
