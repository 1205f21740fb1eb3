-- Records of two and of four bytes, one after another. Assumes nothing.
use Rattle.std.proofs.Common.{◌≡◌, ℕ, zero, suc, ◌+◌, ◌*◌, ◌/◌, ◌<◌, ◌≤◌, List, [], ◌∷◌, map, length, get_or, take, drop, refl, ap, ◌∙◌, ap₂, add-zero, add-one, arith}
use Rattle.std.proofs.lemmas.List.{get_or-take, get_or-drop, drop-drop}
use Rattle.std.specs.Int.{w16, from_le_bytes}
use Rattle.std.specs.Simd.{first_chunks}
use Rattle.rules.specs.Program.{total}
use Rattle.rules.specs.Image.{pair_at, pairs_from, line_from, lines_from}

-- RECORDS IN A PART OF AN IMAGE

part_byte : (image b : List ℕ) (place n k : ℕ) → b ≡ take n (drop place image) → k < n → get_or b k 0 ≡ get_or image (place + k) 0
part_byte image b place n k e h = ap (λ (l : List ℕ). get_or l k 0) e ∙ get_or-take n (drop place image) k 0 h ∙ get_or-drop place image k 0

-- the number in the record at k of a part
pub part_pair : (image b : List ℕ) (place n k : ℕ) → b ≡ take n (drop place image) → k + 2 ≤ n → pair_at b k ≡ pair_at image (place + k)
part_pair image b place n k e h =
    let low = part_byte image b place n k e (omega arith) in
    let q : place + (k + 1) ≡ place + k + 1 = omega arith in
    let high = part_byte image b place n (k + 1) e (omega arith) ∙ ap (λ (m : ℕ). get_or image m 0) q in
    omega arith

-- the numbers from k on in a part
pairs_part : (image b : List ℕ) (place n : ℕ) → b ≡ take n (drop place image) → (m k : ℕ) → k + 2 * m ≤ n → pairs_from b k m ≡ pairs_from image (place + k) m
pairs_part image b place n e zero k h = refl
pairs_part image b place n e (suc m) k h =
    let q : place + (k + 2) ≡ place + k + 2 = omega arith in
    ap₂ ◌∷◌ (part_pair image b place n k e (omega arith)) (pairs_part image b place n e m (k + 2) (omega arith) ∙ ap (λ (l : ℕ). pairs_from image l m) q)

-- the line at k in a part
line_part : (image b : List ℕ) (place n k : ℕ) → b ≡ take n (drop place image) → k + 4 ≤ n → line_from b k ≡ line_from image (place + k)
line_part image b place n k e h =
    let q : place + (k + 1) ≡ place + k + 1 = omega arith in
    let r : place + (k + 2) ≡ place + k + 2 = omega arith in
    let code = part_byte image b place n k e (omega arith) in
    let mode = part_byte image b place n (k + 1) e (omega arith) ∙ ap (λ (m : ℕ). get_or image m 0) q in
    let operand = part_pair image b place n (k + 2) e (omega arith) ∙ ap (pair_at image) r in
    λ i. record { code = code i; mode = mode i; operand = operand i }

lines_part : (image b : List ℕ) (place n : ℕ) → b ≡ take n (drop place image) → (m k : ℕ) → k + 4 * m ≤ n → lines_from b k m ≡ lines_from image (place + k) m
lines_part image b place n e zero k h = refl
lines_part image b place n e (suc m) k h =
    let q : place + (k + 4) ≡ place + k + 4 = omega arith in
    ap₂ ◌∷◌ (line_part image b place n k e (omega arith)) (lines_part image b place n e m (k + 4) (omega arith) ∙ ap (λ (l : ℕ). lines_from image l m) q)

-- all records of a part that lies in the image
module _ (image b : List ℕ) (place n : ℕ) where
  pub pairs_whole : b ≡ take (2 * n) (drop place image) → length b ≡ 2 * n → pairs_from b 0 (length b / 2) ≡ pairs_from image place n
  pairs_whole e long =
      let q : length b / 2 ≡ n = omega arith in
      ap (pairs_from b 0) q ∙ pairs_part image b place (2 * n) e n 0 (omega arith) ∙ ap (λ (l : ℕ). pairs_from image l n) (add-zero place)

  pub lines_whole : b ≡ take (4 * n) (drop place image) → length b ≡ 4 * n → lines_from b 0 (length b / 4) ≡ lines_from image place n
  lines_whole e long =
      let q : length b / 4 ≡ n = omega arith in
      ap (lines_from b 0) q ∙ lines_part image b place (4 * n) e n 0 (omega arith) ∙ ap (λ (l : ℕ). lines_from image l n) (add-zero place)

-- SUMS

-- one more number, added up
pub total_more : (ns : List ℕ) (i : ℕ) → i < length ns → total (take (i + 1) ns) ≡ total (take i ns) + get_or ns i 0
total_more [] i h = absurd (omega arith)
total_more (n ∷ ns) zero h = omega arith
total_more (n ∷ ns) (suc i) h = rw add-one (let q = rw add-one at (total_more ns i (omega arith)) in omega arith)

-- RECORDS AS ARRAYS

record_pair : (s : List ℕ) (k : ℕ) → from_le_bytes w16 (take 2 (drop k s)) ≡ pair_at s k
record_pair s k = let e = part_pair s (take 2 (drop k s)) k 2 0 refl (omega arith) ∙ ap (pair_at s) (add-zero k) in omega arith

-- the records from k on
pub pairs_are : (s : List ℕ) (n k : ℕ) → map (from_le_bytes w16) (first_chunks 2 n (drop k s)) ≡ pairs_from s k n
pairs_are s zero k = refl
pairs_are s (suc n) k = ap₂ ◌∷◌ (record_pair s k) (ap (λ (l : List ℕ). map (from_le_bytes w16) (first_chunks 2 n l)) (drop-drop 2 k s) ∙ pairs_are s n (k + 2))

pub lines_are : (s : List ℕ) (n k : ℕ) → map (λ (r : List ℕ). line_from r 0) (first_chunks 4 n (drop k s)) ≡ lines_from s k n
lines_are s zero k = refl
lines_are s (suc n) k = ap₂ ◌∷◌ (line_part s (take 4 (drop k s)) k 4 0 refl (omega arith) ∙ ap (line_from s) (add-zero k)) (ap (λ (l : List ℕ). map (λ (r : List ℕ). line_from r 0) (first_chunks 4 n l)) (drop-drop 4 k s) ∙ lines_are s n (k + 4))
