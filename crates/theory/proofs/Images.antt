-- Images: what a program's image holds, the shape that a sound image gives, and that refusals are alike. Assumes nothing.
use Rattle.std.proofs.Common.{◌≡◌, ℕ, zero, suc, ◌+◌, ◌*◌, ◌/◌, ◌%◌, ◌<◌, ◌≤◌, ◌⊎◌, List, [], ◌∷◌, ◌++◌, length, get_or, take, drop, sym, refl, ap, ◌∙◌, subst, ap₂, inl, inr, arith, lit<}
use Rattle.std.proofs.lemmas.Bool.{cases_eq, cases_lt, cases_order}
use Rattle.std.proofs.lemmas.List.{get_or-append-add, take_at, length-append, length-drop, length-take-le, drop_more, drop_all, drop-drop, take-append-drop}
use Rattle.rules.specs.declared.line.Line.{Line}
use Rattle.rules.specs.Number.{Bytes}
use Rattle.rules.specs.Program.{Program, total}
use Rattle.rules.specs.Image.{Section, data_section, mechanism_section, module_section, line_section, record_size, least_count, most_count, pair_at, count_place, count, section_place, pairs_from, line_from, lines_from, program_of, two_bytes, pairs_bytes, lines_bytes, image_of, image_end, ImageBreaks, by_short_count, by_short_section, by_count, by_activation, by_left_over, by_total, ImageRefused, ImageSound}
use Rattle.rules.specs.Form.{records, Shaped}
use Rattle.rules.specs.Verdict.{Breaks, TextRefused}
use Rattle.rules.specs.Load.{by_image, by_text}
use Rattle.theory.specs.Images.{ImagesHold, ImagesAreSound, SoundImagesAreShaped, SoundImagesAreEncodings, LoadsAreAccepted, RefusalsAlike, RefusedNotLoaded}
use Rattle.theory.proofs.Orderly.{sure}

-- READING BEHIND A BEGINNING

get_behind : (xs ys : List ℕ) (a k : ℕ) → a ≡ length xs + k → get_or (xs ++ ys) a 0 ≡ get_or ys k 0
get_behind xs ys a k e = ap (λ (n : ℕ). get_or (xs ++ ys) n 0) e ∙ get_or-append-add xs ys k 0

pair_behind : (xs ys : List ℕ) (a k : ℕ) → a ≡ length xs + k → pair_at (xs ++ ys) a ≡ pair_at ys k
pair_behind xs ys a k e = ap₂ (λ (u v : ℕ). u + 256 * (v + 256 * 0)) (get_behind xs ys a k e) (get_behind xs ys (a + 1) (k + 1) (omega arith))

pub pairs_behind : (xs ys : List ℕ) (n a k : ℕ) → a ≡ length xs + k → pairs_from (xs ++ ys) a n ≡ pairs_from ys k n
pairs_behind xs ys zero a k e = refl
pairs_behind xs ys (suc n) a k e = ap₂ ◌∷◌ (pair_behind xs ys a k e) (pairs_behind xs ys n (a + 2) (k + 2) (omega arith))

line_behind : (xs ys : List ℕ) (a k : ℕ) → a ≡ length xs + k → line_from (xs ++ ys) a ≡ line_from ys k
line_behind xs ys a k e =
    let c = get_behind xs ys a k e in
    let m = get_behind xs ys (a + 1) (k + 1) (omega arith) in
    let o = pair_behind xs ys (a + 2) (k + 2) (omega arith) in
    λ i. record { code = c i; mode = m i; operand = o i }

pub lines_behind : (xs ys : List ℕ) (n a k : ℕ) → a ≡ length xs + k → lines_from (xs ++ ys) a n ≡ lines_from ys k n
lines_behind xs ys zero a k e = refl
lines_behind xs ys (suc n) a k e = ap₂ ◌∷◌ (line_behind xs ys a k e) (lines_behind xs ys n (a + 4) (k + 4) (omega arith))

-- READING BACK WHAT WAS WRITTEN

two_back : (n : ℕ) (ys : List ℕ) → pair_at (two_bytes n ++ ys) 0 ≡ n
two_back n ys = omega arith

pairs_back : (ns ys : List ℕ) → pairs_from (pairs_bytes ns ++ ys) 0 (length ns) ≡ ns
pairs_back [] ys = refl
pairs_back (n ∷ ns) ys = ap₂ ◌∷◌ (two_back n (pairs_bytes ns ++ ys)) (pairs_behind (two_bytes n) (pairs_bytes ns ++ ys) (length ns) 2 0 refl ∙ pairs_back ns ys)

line_back : (x : Line) (ys : List ℕ) → line_from ((x.code ∷ x.mode ∷ two_bytes x.operand) ++ ys) 0 ≡ x
line_back x ys = let o = two_back x.operand ys in λ i. record { code = x.code; mode = x.mode; operand = o i }

lines_back : (xs : List Line) (ys : List ℕ) → lines_from (lines_bytes xs ++ ys) 0 (length xs) ≡ xs
lines_back [] ys = refl
lines_back (x ∷ xs) ys = ap₂ ◌∷◌ (line_back x (lines_bytes xs ++ ys)) (lines_behind (x.code ∷ x.mode ∷ two_bytes x.operand) (lines_bytes xs ++ ys) (length xs) 4 0 refl ∙ lines_back xs ys)

pairs_size : (ns : List ℕ) → length (pairs_bytes ns) ≡ 2 * length ns
pairs_size [] = refl
pairs_size (n ∷ ns) = let q = pairs_size ns in omega arith

lines_size : (xs : List Line) → length (lines_bytes xs) ≡ 4 * length xs
lines_size [] = refl
lines_size (x ∷ xs) = let q = lines_size xs in omega arith

append_nothing : {A : Type 0} (xs : List A) → xs ++ [] ≡ xs
append_nothing [] = refl
append_nothing (x ∷ xs) = ap (λ (ys : List _). x ∷ ys) (append_nothing xs)

pub pairs_length : (image : List ℕ) (place n : ℕ) → length (pairs_from image place n) ≡ n
pairs_length image place zero = refl
pairs_length image place (suc n) = ap suc (pairs_length image (place + 2) n)

pub lines_length : (image : List ℕ) (place n : ℕ) → length (lines_from image place n) ≡ n
lines_length image place zero = refl
lines_length image place (suc n) = ap suc (lines_length image (place + 4) n)

pub pairs_at : (image : List ℕ) (place n k : ℕ) → k < n → get_or (pairs_from image place n) k 0 ≡ pair_at image (place + 2 * k)
pairs_at image place zero k h = absurd (omega arith)
pairs_at image place (suc n) zero h = let q : place ≡ place + 2 * 0 = omega arith in ap (pair_at image) q
pairs_at image place (suc n) (suc k) h = let q : place + 2 + 2 * k ≡ place + 2 * suc k = omega arith in pairs_at image (place + 2) n k (omega arith) ∙ ap (pair_at image) q

-- THE IMAGE OF A PROGRAM

module _ (p : Program) where
  abbrev D : ℕ
  D = length p.initial

  abbrev M : ℕ
  M = length p.activation

  abbrev K : ℕ
  K = length p.lengths

  abbrev N : ℕ
  N = length p.lines

  -- the image from the second, the third and the fourth count on
  abbrev from_lines : List ℕ
  from_lines = two_bytes N ++ lines_bytes p.lines

  abbrev from_modules : List ℕ
  from_modules = two_bytes K ++ (pairs_bytes p.lengths ++ from_lines)

  abbrev from_mechanisms : List ℕ
  from_mechanisms = two_bytes M ++ (pairs_bytes p.activation ++ from_modules)

  -- behind the data, the mechanisms and the modules
  pair_1 : (a k : ℕ) → a ≡ 2 + D + k → pair_at (image_of p) a ≡ pair_at from_mechanisms k
  pair_1 a k e = pair_behind (two_bytes D) (p.initial ++ from_mechanisms) a (D + k) (omega arith) ∙ pair_behind p.initial from_mechanisms (D + k) k refl

  pair_2 : (a k : ℕ) → a ≡ 4 + D + 2 * M + k → pair_at (image_of p) a ≡ pair_at from_modules k
  pair_2 a k e =
      let q = pairs_size p.activation in
      pair_1 a (2 + 2 * M + k) (omega arith) ∙ pair_behind (two_bytes M) (pairs_bytes p.activation ++ from_modules) (2 + 2 * M + k) (2 * M + k) (omega arith) ∙ pair_behind (pairs_bytes p.activation) from_modules (2 * M + k) k (omega arith)

  pair_3 : (a k : ℕ) → a ≡ 6 + D + 2 * M + 2 * K + k → pair_at (image_of p) a ≡ pair_at from_lines k
  pair_3 a k e =
      let q = pairs_size p.lengths in
      pair_2 a (2 + 2 * K + k) (omega arith) ∙ pair_behind (two_bytes K) (pairs_bytes p.lengths ++ from_lines) (2 + 2 * K + k) (2 * K + k) (omega arith) ∙ pair_behind (pairs_bytes p.lengths) from_lines (2 * K + k) k (omega arith)

  -- the counts and their places
  record Laid : Type 0 where
    data_count : count (image_of p) data_section ≡ D
    mechanism_place : count_place (image_of p) mechanism_section ≡ 2 + D
    mechanism_count : count (image_of p) mechanism_section ≡ M
    module_place : count_place (image_of p) module_section ≡ 4 + D + 2 * M
    module_count : count (image_of p) module_section ≡ K
    line_place : count_place (image_of p) line_section ≡ 6 + D + 2 * M + 2 * K
    line_count : count (image_of p) line_section ≡ N
    size : length (image_of p) ≡ 8 + D + 2 * M + 2 * K + 4 * N

  size_of : length (image_of p) ≡ 8 + D + 2 * M + 2 * K + 4 * N
  size_of =
      let a = pairs_size p.activation in
      let b = pairs_size p.lengths in
      let c = lines_size p.lines in
      simp length-append (omega arith)

  laid : Laid
  laid =
      let c₀ : count (image_of p) data_section ≡ D = two_back D (p.initial ++ from_mechanisms) in
      let p₁ : count_place (image_of p) mechanism_section ≡ 2 + D = omega arith in
      let c₁ : count (image_of p) mechanism_section ≡ M = pair_1 (count_place (image_of p) mechanism_section) 0 (omega arith) ∙ two_back M (pairs_bytes p.activation ++ from_modules) in
      let p₂ : count_place (image_of p) module_section ≡ 4 + D + 2 * M = omega arith in
      let c₂ : count (image_of p) module_section ≡ K = pair_2 (count_place (image_of p) module_section) 0 (omega arith) ∙ two_back K (pairs_bytes p.lengths ++ from_lines) in
      let p₃ : count_place (image_of p) line_section ≡ 6 + D + 2 * M + 2 * K = omega arith in
      let c₃ : count (image_of p) line_section ≡ N = pair_3 (count_place (image_of p) line_section) 0 (omega arith) ∙ two_back N (lines_bytes p.lines) in
      record { data_count = c₀; mechanism_place = p₁; mechanism_count = c₁; module_place = p₂; module_count = c₂; line_place = p₃; line_count = c₃; size = size_of }

  pairs_1 : (n a k : ℕ) → a ≡ 2 + D + k → pairs_from (image_of p) a n ≡ pairs_from from_mechanisms k n
  pairs_1 n a k e = pairs_behind (two_bytes D) (p.initial ++ from_mechanisms) n a (D + k) (omega arith) ∙ pairs_behind p.initial from_mechanisms n (D + k) k refl

  pairs_2 : (n a k : ℕ) → a ≡ 4 + D + 2 * M + k → pairs_from (image_of p) a n ≡ pairs_from from_modules k n
  pairs_2 n a k e =
      let q = pairs_size p.activation in
      pairs_1 n a (2 + 2 * M + k) (omega arith) ∙ pairs_behind (two_bytes M) (pairs_bytes p.activation ++ from_modules) n (2 + 2 * M + k) (2 * M + k) (omega arith) ∙ pairs_behind (pairs_bytes p.activation) from_modules n (2 * M + k) k (omega arith)

  lines_3 : (n a k : ℕ) → a ≡ 6 + D + 2 * M + 2 * K + k → lines_from (image_of p) a n ≡ lines_from from_lines k n
  lines_3 n a k e =
      let q = pairs_size p.activation in
      let r = pairs_size p.lengths in
      lines_behind (two_bytes D) (p.initial ++ from_mechanisms) n a (D + (4 + 2 * M + 2 * K + k)) (omega arith)
      ∙ lines_behind p.initial from_mechanisms n (D + (4 + 2 * M + 2 * K + k)) (4 + 2 * M + 2 * K + k) refl
      ∙ lines_behind (two_bytes M) (pairs_bytes p.activation ++ from_modules) n (4 + 2 * M + 2 * K + k) (2 * M + (2 + 2 * K + k)) (omega arith)
      ∙ lines_behind (pairs_bytes p.activation) from_modules n (2 * M + (2 + 2 * K + k)) (2 + 2 * K + k) (omega arith)
      ∙ lines_behind (two_bytes K) (pairs_bytes p.lengths ++ from_lines) n (2 + 2 * K + k) (2 * K + k) (omega arith)
      ∙ lines_behind (pairs_bytes p.lengths) from_lines n (2 * K + k) k (omega arith)

  initial_back : (program_of (image_of p)).initial ≡ p.initial
  initial_back = ap (λ (n : ℕ). take n (p.initial ++ from_mechanisms)) laid.data_count ∙ take_at p.initial from_mechanisms D refl

  activation_back : (program_of (image_of p)).activation ≡ p.activation
  activation_back =
      let e = laid.mechanism_place in
      ap (pairs_from (image_of p) (section_place (image_of p) mechanism_section)) laid.mechanism_count
      ∙ pairs_1 M (section_place (image_of p) mechanism_section) 2 (omega arith)
      ∙ pairs_behind (two_bytes M) (pairs_bytes p.activation ++ from_modules) M 2 0 refl
      ∙ pairs_back p.activation from_modules

  lengths_back : (program_of (image_of p)).lengths ≡ p.lengths
  lengths_back =
      let e = laid.module_place in
      ap (pairs_from (image_of p) (section_place (image_of p) module_section)) laid.module_count
      ∙ pairs_2 K (section_place (image_of p) module_section) 2 (omega arith)
      ∙ pairs_behind (two_bytes K) (pairs_bytes p.lengths ++ from_lines) K 2 0 refl
      ∙ pairs_back p.lengths from_lines

  lines_are_back : (program_of (image_of p)).lines ≡ p.lines
  lines_are_back =
      let e = laid.line_place in
      ap (lines_from (image_of p) (section_place (image_of p) line_section)) laid.line_count
      ∙ lines_3 N (section_place (image_of p) line_section) 2 (omega arith)
      ∙ lines_behind (two_bytes N) (lines_bytes p.lines) N 2 0 refl
      ∙ ap (λ (bs : List ℕ). lines_from bs 0 N) (sym (append_nothing (lines_bytes p.lines)))
      ∙ lines_back p.lines []

pub images_hold : ImagesHold
images_hold p =
    let a = initial_back p in
    let b = activation_back p in
    let c = lengths_back p in
    let d = lines_are_back p in
    λ i. record { initial = a i; activation = b i; lengths = c i; lines = d i }

-- THE IMAGE OF A SHAPED PROGRAM

module _ (p : Program) (sh : Shaped p) where
  unshort : (s : Section) → length (image_of p) < section_place (image_of p) s → ⊥
  unshort data_section h = let q = (laid p).size in omega arith
  unshort mechanism_section h = let q = (laid p).size in let e = (laid p).mechanism_place in omega arith
  unshort module_section h = let q = (laid p).size in let e = (laid p).module_place in omega arith
  unshort line_section h = let q = (laid p).size in let e = (laid p).line_place in omega arith

  whole : (s : Section) → length (image_of p) < section_place (image_of p) s + record_size s * count (image_of p) s → ⊥
  whole data_section h = let q = (laid p).size in let c = (laid p).data_count in omega arith
  whole mechanism_section h = let q = (laid p).size in let e = (laid p).mechanism_place in let c = (laid p).mechanism_count in omega arith
  whole module_section h = let q = (laid p).size in let e = (laid p).module_place in let c = (laid p).module_count in omega arith
  whole line_section h = let q = (laid p).size in let e = (laid p).line_place in let c = (laid p).line_count in omega arith

  counted : (s : Section) → count (image_of p) s ≡ records p s
  counted data_section = (laid p).data_count
  counted mechanism_section = (laid p).mechanism_count
  counted module_section = (laid p).module_count
  counted line_section = (laid p).line_count

  in_range : (s : Section) → (count (image_of p) s < least_count s) ⊎ (most_count s < count (image_of p) s) → ⊥
  in_range s (inl h) = let c = counted s in let r = (sh.counts s).0 in omega arith
  in_range s (inr h) = let c = counted s in let r = (sh.counts s).1 in omega arith

  inside : (k place : ℕ) → k < count (image_of p) mechanism_section → place ≡ section_place (image_of p) mechanism_section + 2 * k → 8 * count (image_of p) data_section ≤ pair_at (image_of p) place → ⊥
  inside k place h e g =
      let c = (laid p).mechanism_count in
      let d = (laid p).data_count in
      let q : k < length p.activation = omega arith in
      let v : get_or p.activation k 0 ≡ pair_at (image_of p) place = ap (λ (ns : List ℕ). get_or ns k 0) (sym (activation_back p)) ∙ pairs_at (image_of p) (section_place (image_of p) mechanism_section) (count (image_of p) mechanism_section) k h ∙ ap (pair_at (image_of p)) (sym e) in
      let w = sh.activation_inside k q in
      omega arith

  sound_image : ImageSound (image_of p)
  sound_image r l (by_short_count s e q h) = unshort s (omega arith)
  sound_image r l (by_short_section s e q h) = whole s (omega arith)
  sound_image r l (by_count s e q h) = in_range s h
  sound_image r l (by_activation {k = k} e h q g) = inside k l h q g
  sound_image r l (by_left_over e q h) =
      let x = (laid p).size in
      let y = (laid p).line_place in
      let z = (laid p).line_count in
      omega arith
  sound_image r l (by_total e q h) = h (ap total (lengths_back p) ∙ sh.all_lines ∙ sym (laid p).line_count)

pub images_are_sound : ImagesAreSound
images_are_sound p sh = sound_image p sh

-- THE SHAPE THAT A SOUND IMAGE GIVES

pub small_take : (n : ℕ) (xs : List ℕ) → Bytes xs → Bytes (take n xs)
small_take zero xs h i = lit< tt
small_take (suc n) [] h i = lit< tt
small_take (suc n) (x ∷ xs) h zero = h zero
small_take (suc n) (x ∷ xs) h (suc i) = small_take n xs (λ j. h (suc j)) i

pub small_drop : (n : ℕ) (xs : List ℕ) → Bytes xs → Bytes (drop n xs)
small_drop zero xs h i = h i
small_drop (suc n) [] h i = lit< tt
small_drop (suc n) (x ∷ xs) h i = small_drop n xs (λ j. h (suc j)) i

module _ (image : List ℕ) (sound : ImageSound image) where
  pub least : (s : Section) → least_count s ≤ count image s
  least s = elim (cases_lt (count image s) (least_count s)) [ inl h ↦ absurd (sound 2 (count_place image s) (by_count s refl refl (inl h))) | inr h ↦ h ]

  pub most : (s : Section) → count image s ≤ most_count s
  most s = elim (cases_lt (most_count s) (count image s)) [ inl h ↦ absurd (sound 2 (count_place image s) (by_count s refl refl (inr h))) | inr h ↦ h ]

  data_held : 2 + count image data_section ≤ length image
  data_held = elim (cases_lt (length image) (section_place image data_section + 1 * count image data_section)) [ inl h ↦ absurd (sound 1 (section_place image data_section) (by_short_section data_section refl refl h)) | inr h ↦ omega arith ]

  pub read : (s : Section) → records (program_of image) s ≡ count image s
  read data_section = length-take-le (count image data_section) (drop 2 image) (simp length-drop (let h = data_held in omega arith))
  read mechanism_section = pairs_length image (section_place image mechanism_section) (count image mechanism_section)
  read module_section = pairs_length image (section_place image module_section) (count image module_section)
  read line_section = lines_length image (section_place image line_section) (count image line_section)

  pub held : (k : ℕ) → k < length (program_of image).activation → get_or (program_of image).activation k 0 < 8 * length (program_of image).initial
  held k h =
      let m = read mechanism_section in
      let d = read data_section in
      let q : k < count image mechanism_section = omega arith in
      let v = pairs_at image (section_place image mechanism_section) (count image mechanism_section) k q in
      elim (cases_lt (pair_at image (section_place image mechanism_section + 2 * k)) (8 * count image data_section)) [ inl g ↦ omega arith | inr g ↦ absurd (sound 3 (section_place image mechanism_section + 2 * k) (by_activation refl q refl g)) ]

  pub all_lines_counted : total (program_of image).lengths ≡ count image line_section
  all_lines_counted = sure (cases_eq (total (program_of image).lengths) (count image line_section)) (λ n. sound 5 (count_place image line_section) (by_total refl refl n))

  shape : Bytes image → Shaped (program_of image)
  shape small = record {
    counts = λ s. (let r = read s in let a = least s in let b = most s in (omega arith, omega arith));
    bytes_small = small_take (count image data_section) (drop 2 image) (small_drop 2 image small);
    activation_inside = held;
    all_lines = all_lines_counted ∙ sym (read line_section);
  }

pub sound_images_are_shaped : SoundImagesAreShaped
sound_images_are_shaped image small sound = shape image sound small

-- THE PROGRAM OF A SOUND IMAGE, WRITTEN AGAIN

-- what is read from a place on and written again, before the rest of the image, is the image from that place on
module _ (image : List ℕ) (small : Bytes image) where
  pair_again : (a : ℕ) → a + 2 ≤ length image → two_bytes (pair_at image a) ++ drop (a + 2) image ≡ drop a image
  pair_again a h =
      let lo = small a in
      let e₁ : pair_at image a % 256 ≡ get_or image a 0 = omega arith in
      let e₂ : pair_at image a / 256 ≡ get_or image (a + 1) 0 = omega arith in
      let d₁ = drop_more image a 0 (omega arith) in
      let d₂ = drop_more image (a + 1) 0 (omega arith) in
      let q : a + 2 ≡ a + 1 + 1 = omega arith in
      ap₂ (λ (x y : ℕ). x ∷ y ∷ drop (a + 2) image) e₁ e₂
      ∙ ap (λ (n : ℕ). get_or image a 0 ∷ get_or image (a + 1) 0 ∷ drop n image) q
      ∙ ap (λ (ys : List ℕ). get_or image a 0 ∷ ys) (sym d₂) ∙ sym d₁

  pairs_again : (n a : ℕ) → a + 2 * n ≤ length image → pairs_bytes (pairs_from image a n) ++ drop (a + 2 * n) image ≡ drop a image
  pairs_again zero a h = let q : a + 2 * 0 ≡ a = omega arith in ap (λ (k : ℕ). drop k image) q
  pairs_again (suc n) a h =
      let q : a + 2 * suc n ≡ a + 2 + 2 * n = omega arith in
      ap (λ (k : ℕ). two_bytes (pair_at image a) ++ (pairs_bytes (pairs_from image (a + 2) n) ++ drop k image)) q
      ∙ ap (λ (ys : List ℕ). two_bytes (pair_at image a) ++ ys) (pairs_again n (a + 2) (omega arith))
      ∙ pair_again a (omega arith)

  line_again : (a : ℕ) → a + 4 ≤ length image → get_or image a 0 ∷ get_or image (a + 1) 0 ∷ (two_bytes (pair_at image (a + 2)) ++ drop (a + 4) image) ≡ drop a image
  line_again a h =
      let d₁ = drop_more image a 0 (omega arith) in
      let d₂ = drop_more image (a + 1) 0 (omega arith) in
      let q₁ : a + 1 + 1 ≡ a + 2 = omega arith in
      let q₂ : a + 4 ≡ a + 2 + 2 = omega arith in
      ap (λ (n : ℕ). get_or image a 0 ∷ get_or image (a + 1) 0 ∷ (two_bytes (pair_at image (a + 2)) ++ drop n image)) q₂
      ∙ ap (λ (ys : List ℕ). get_or image a 0 ∷ get_or image (a + 1) 0 ∷ ys) (pair_again (a + 2) (omega arith) ∙ ap (λ (n : ℕ). drop n image) (sym q₁))
      ∙ ap (λ (ys : List ℕ). get_or image a 0 ∷ ys) (sym d₂) ∙ sym d₁

  lines_again : (n a : ℕ) → a + 4 * n ≤ length image → lines_bytes (lines_from image a n) ++ drop (a + 4 * n) image ≡ drop a image
  lines_again zero a h = let q : a + 4 * 0 ≡ a = omega arith in ap (λ (k : ℕ). drop k image) q
  lines_again (suc n) a h =
      let q : a + 4 * suc n ≡ a + 4 + 4 * n = omega arith in
      ap (λ (k : ℕ). get_or image a 0 ∷ get_or image (a + 1) 0 ∷ (two_bytes (pair_at image (a + 2)) ++ (lines_bytes (lines_from image (a + 4) n) ++ drop k image))) q
      ∙ ap (λ (ys : List ℕ). get_or image a 0 ∷ get_or image (a + 1) 0 ∷ (two_bytes (pair_at image (a + 2)) ++ ys)) (lines_again n (a + 4) (omega arith))
      ∙ line_again a (omega arith)

module _ (image : List ℕ) (small : Bytes image) (sound : ImageSound image) where
  section_held : (s : Section) → section_place image s + record_size s * count image s ≤ length image
  section_held s = elim (cases_lt (length image) (section_place image s + record_size s * count image s)) [ inl h ↦ absurd (sound 1 (section_place image s) (by_short_section s refl refl h)) | inr h ↦ h ]

  none_over : length image ≤ image_end image
  none_over = elim (cases_lt (image_end image) (length image)) [ inl h ↦ absurd (sound 4 (image_end image) (by_left_over refl refl h)) | inr h ↦ h ]

  -- the count of a section, written again, stands before the section
  count_again : (s : Section) → two_bytes (records (program_of image) s) ++ drop (section_place image s) image ≡ drop (count_place image s) image
  count_again s =
      let h = section_held s in
      ap (λ (n : ℕ). two_bytes n ++ drop (section_place image s) image) (read image sound s) ∙ pair_again image small (count_place image s) (omega arith)

  lines_part : lines_bytes (program_of image).lines ≡ drop (section_place image line_section) image
  lines_part =
      sym (append_nothing (lines_bytes (program_of image).lines))
      ∙ ap (λ (ys : List ℕ). lines_bytes (program_of image).lines ++ ys) (sym (drop_all (section_place image line_section + 4 * count image line_section) image none_over))
      ∙ lines_again image small (count image line_section) (section_place image line_section) (section_held line_section)

  again : image_of (program_of image) ≡ image
  again =
      let p = program_of image in
      let q : 2 + count image data_section ≡ count_place image mechanism_section = omega arith in
      let b : p.initial ++ drop (count_place image mechanism_section) image ≡ drop 2 image =
      ap (λ (n : ℕ). p.initial ++ drop n image) (sym q) ∙ ap (λ (ys : List ℕ). p.initial ++ ys) (sym (drop-drop (count image data_section) 2 image)) ∙ take-append-drop (count image data_section) (drop 2 image) in
      ap (λ (ys : List ℕ). two_bytes (length p.initial) ++ (p.initial ++ (two_bytes (length p.activation) ++ (pairs_bytes p.activation ++ (two_bytes (length p.lengths) ++ (pairs_bytes p.lengths ++ (two_bytes (length p.lines) ++ ys))))))) lines_part
      ∙ ap (λ (ys : List ℕ). two_bytes (length p.initial) ++ (p.initial ++ (two_bytes (length p.activation) ++ (pairs_bytes p.activation ++ (two_bytes (length p.lengths) ++ (pairs_bytes p.lengths ++ ys)))))) (count_again line_section)
      ∙ ap (λ (ys : List ℕ). two_bytes (length p.initial) ++ (p.initial ++ (two_bytes (length p.activation) ++ (pairs_bytes p.activation ++ (two_bytes (length p.lengths) ++ ys))))) (pairs_again image small (count image module_section) (section_place image module_section) (section_held module_section))
      ∙ ap (λ (ys : List ℕ). two_bytes (length p.initial) ++ (p.initial ++ (two_bytes (length p.activation) ++ (pairs_bytes p.activation ++ ys)))) (count_again module_section)
      ∙ ap (λ (ys : List ℕ). two_bytes (length p.initial) ++ (p.initial ++ (two_bytes (length p.activation) ++ ys))) (pairs_again image small (count image mechanism_section) (section_place image mechanism_section) (section_held mechanism_section))
      ∙ ap (λ (ys : List ℕ). two_bytes (length p.initial) ++ (p.initial ++ ys)) (count_again mechanism_section)
      ∙ ap (λ (ys : List ℕ). two_bytes (length p.initial) ++ ys) b
      ∙ count_again data_section

pub sound_images_are_encodings : SoundImagesAreEncodings
sound_images_are_encodings image small =
    (λ sound. (program_of image, shape image sound small, sym (again image small sound)), λ p sh e. subst ImageSound (sym e) (images_are_sound p sh))

pub loads_are_accepted : LoadsAreAccepted
loads_are_accepted image p small h = record { shaped = subst Shaped (sym h.program) (shape image h.sound small); unbroken = h.unbroken }

-- REFUSALS

by_place : {image : List ℕ} {r l : ℕ} → ImageBreaks image r l → (r < 5) ⊎ ((r ≡ 5) × (l ≡ count_place image line_section))
by_place (by_short_count s e q h) = inl (omega arith)
by_place (by_short_section s e q h) = inl (omega arith)
by_place (by_count s e q h) = inl (omega arith)
by_place (by_activation e h q g) = inl (omega arith)
by_place (by_left_over e q h) = inl (omega arith)
by_place (by_total e q h) = inr (e, q)

image_alike : (image : List ℕ) (r s l m : ℕ) → ImageRefused image r l → ImageRefused image s m → (r ≡ s) × (l ≡ m)
image_alike image r s l m a b = go (by_place a.broken) (by_place b.broken)
  where
    nearer : (r < 5) × ((l < m) ⊎ ((l ≡ m) × (r ≤ s))) → (s < 5) × ((m < l) ⊎ ((m ≡ l) × (s ≤ r))) → (r ≡ s) × (l ≡ m)
    nearer (x, inl y) (z, inl w) = absurd (omega arith)
    nearer (x, inl y) (z, inr w) = absurd (let q = w.0 in omega arith)
    nearer (x, inr y) (z, inl w) = absurd (let q = y.0 in omega arith)
    nearer (x, inr y) (z, inr w) = (let q = y.1 in let t = w.1 in omega arith, y.0)

    go : (r < 5) ⊎ ((r ≡ 5) × (l ≡ count_place image line_section)) → (s < 5) ⊎ ((s ≡ 5) × (m ≡ count_place image line_section)) → (r ≡ s) × (l ≡ m)
    go (inl x) (inl y) = nearer (a.earliest s m y b.broken) (b.earliest r l x a.broken)
    go (inl x) (inr y) = absurd (let z = (b.earliest r l x a.broken).0 in let q = y.0 in omega arith)
    go (inr x) (inl y) = absurd (let z = (a.earliest s m y b.broken).0 in let q = x.0 in omega arith)
    go (inr x) (inr y) = (x.0 ∙ sym y.0, x.1 ∙ sym y.1)

text_alike : (p : Program) (r s l m : ℕ) → TextRefused p r l → TextRefused p s m → (r ≡ s) × (l ≡ m)
text_alike p r s l m a b = go (cases_order r s)
  where
    places : r ≡ s → (l ≡ m) ⊎ ((l < m) ⊎ (m < l)) → l ≡ m
    places e (inl q) = q
    places e (inr (inl q)) = absurd (b.foremost l q (subst (λ (x : ℕ). Breaks p x l) e a.broken))
    places e (inr (inr q)) = absurd (a.foremost m q (subst (λ (x : ℕ). Breaks p x m) (sym e) b.broken))

    go : (r ≡ s) ⊎ ((r < s) ⊎ (s < r)) → (r ≡ s) × (l ≡ m)
    go (inl e) = (e, places e (cases_order l m))
    go (inr (inl q)) = absurd (b.lowest r l q a.broken)
    go (inr (inr q)) = absurd (a.lowest s m q b.broken)

pub refusals_alike : RefusalsAlike
refusals_alike image r s a b l m (by_image x) (by_image y) = let e = image_alike image r s l m x y in (e.0, refl, e.1)
refusals_alike image r s a b l m (by_image x) (by_text v y) = absurd (v r l x.broken)
refusals_alike image r s a b l m (by_text u x) (by_image y) = absurd (u s m y.broken)
refusals_alike image r s a b l m (by_text u x) (by_text v y) = let e = text_alike (program_of image) r s l m x y in (e.0, refl, e.1)

pub refused_not_loaded : RefusedNotLoaded
refused_not_loaded image p r a l (by_image x) h = h.sound r l x.broken
refused_not_loaded image p r a l (by_text u x) h = h.unbroken r l (subst (λ (q : Program). Breaks q r l) (sym h.program) x.broken)
