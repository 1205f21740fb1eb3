-- Eight bytes put over the front of a list, byte by byte. Assumes nothing.
use Rattle.std.proofs.Common.{◌≡◌, ℕ, ◌+◌, ◌<◌, ◌≤◌, cond, List, [], ◌∷◌, ◌++◌, length, get_or, take, drop, set, sym, ap, ◌∙◌, arith, length-append, length-drop, length-take}
use Rattle.std.proofs.lemmas.List.{append_assoc, drop_more, take_more, set_at, length-take-le, take_at}
use Rattle.std.proofs.lemmas.Bool.{lt-ltb}
use Rattle.cabinet.specs.Ports.{written}

module _ (xs ys : List ℕ) where
  -- the first i bytes of xs put over ys
  abbrev pub over : ℕ → List ℕ
  over i = take i xs ++ drop i ys

  -- one byte more
  pub over_more : (bytes after : List ℕ) (i x : ℕ) → after ≡ set bytes i x → i < length xs → i < length ys → bytes ≡ over i → x ≡ get_or xs i 0 → after ≡ over (i + 1)
  over_more bytes after i x w h k e r =
      w ∙ ap (λ l. set l i x) (e ∙ ap (λ l. take i xs ++ l) (drop_more ys i 0 k))
      ∙ set_at (take i xs) (get_or ys i 0) (drop (i + 1) ys) x i (length-take-le i xs (omega arith))
      ∙ ap (λ b. take i xs ++ (b ∷ drop (i + 1) ys)) r
      ∙ sym (append_assoc (take i xs) (get_or xs i 0 ∷ []) (drop (i + 1) ys))
      ∙ ap (λ l. l ++ drop (i + 1) ys) (sym (take_more xs i 0 h))

-- eight bytes put over the front of a list at once
pub put_front : (xs bytes ys rest : List ℕ) (n : ℕ) → bytes ≡ xs → rest ≡ ys → length xs ≡ 8 → 8 ≤ length ys → n ≡ length ys → take n ((bytes ++ drop 8 rest) ++ drop (length (bytes ++ drop 8 rest)) ys) ≡ xs ++ drop 8 ys
put_front xs bytes ys rest n e f h k l =
    let long = ap length e in
    let left = ap length f in
    take_at (bytes ++ drop 8 rest) _ n (simp (length-append, length-drop) (omega arith)) ∙ cc

-- the output bytes of the data
pub length-outputs : (d : List ℕ) → 16 ≤ length d → length (take 8 (drop 8 d)) ≡ 8
length-outputs d h = simp (length-take, length-drop) (omega arith)

-- a write to a port that every cabinet has
pub written_there : (bytes : List ℕ) (port b : ℕ) → port < 8 → written bytes port b ≡ set bytes port b
written_there bytes port b h = ap (λ t. cond t (set bytes port b) bytes) (lt-ltb port 8 h)
