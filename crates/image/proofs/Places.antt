-- The places of an image in their order: how far an image is clear of breaches, and what the first breach earns. Assumes nothing.
use Rattle.std.proofs.Common.{◌≡◌, ℕ, ◌+◌, ◌*◌, ◌<◌, ◌≤◌, ◌⊎◌, List, length, sym, refl, ap, subst, inl, inr, arith}
use Rattle.std.proofs.lemmas.Bool.{cases_lt}
use Rattle.rules.specs.Program.{total}
use Rattle.rules.specs.Image.{Section, data_section, mechanism_section, module_section, line_section, record_size, least_count, most_count, pair_at, count_place, count, section_place, image_end, program_of, ImageBreaks, by_short_count, by_short_section, by_count, by_activation, by_left_over, by_total, ImageRefused, ImageSound}
use Rattle.rules.specs.Form.{InRange}

-- SECTIONS BEHIND ONE ANOTHER

-- counts at places, each section behind its count and before the next count
record Laid (place n : Section → ℕ) (end : ℕ) : Type 0 where
  one : place mechanism_section ≡ place data_section + 2 + 1 * n data_section
  two : place module_section ≡ place mechanism_section + 2 + 2 * n mechanism_section
  three : place line_section ≡ place module_section + 2 + 2 * n module_section
  four : end ≡ place line_section + 2 + 4 * n line_section

module _ (place n : Section → ℕ) (end : ℕ) (laid : Laid place n end) where
  abbrev next : Section → ℕ
  next s = place s + 2 + record_size s * n s

  -- of two sections one comes before the other, unless they are the same
  apart : (s t : Section) → (next s ≤ place t) ⊎ ((s ≡ t) ⊎ (next t ≤ place s))
  apart s t = grind arith

  inside : (s : Section) → next s ≤ end
  inside s = grind arith

  -- another section's count stands outside a section and its count
  outside : (s t : Section) → place s ≤ place t → place t < next s → s ≡ t
  outside s t low high = grind (arith, apart)

-- HOW FAR AN IMAGE IS CLEAR

-- the first four rules are broken nowhere before a place
abbrev pub Clear : List ℕ → ℕ → Type 0
Clear image place = (r l : ℕ) → r < 5 → ImageBreaks image r l → place ≤ l

-- the first m activation bits stand inside the data
abbrev pub BitsHeld : List ℕ → ℕ → Type 0
BitsHeld image m = (k : ℕ) → k < m → pair_at image (section_place image mechanism_section + 2 * k) < 8 * count image data_section

pub clear_none : (image : List ℕ) → Clear image 0
clear_none image r l h b = omega arith

module _ (image : List ℕ) where
  abbrev len : ℕ
  len = length image

  abbrev at : Section → ℕ
  at s = count_place image s

  abbrev size : Section → ℕ
  size s = record_size s * count image s

  laid : Laid (count_place image) (count image) (image_end image)
  laid = record { one = refl; two = refl; three = refl; four = refl }

  lies : (s t : Section) → (at s + 2 + size s ≤ at t) ⊎ ((s ≡ t) ⊎ (at t + 2 + size t ≤ at s))
  lies s t = apart (count_place image) (count image) (image_end image) laid s t

  ends : (s : Section) → at s + 2 + size s ≤ image_end image
  ends s = inside (count_place image) (count image) (image_end image) laid s

  same : (s t : Section) → at s ≤ at t → at t < at s + 2 + size s → s ≡ t
  same s t low high = outside (count_place image) (count image) (image_end image) laid s t low high

  -- a place in the mechanism section is in no other section, and not at its count
  alone : (s : Section) (l : ℕ) → at mechanism_section + 2 ≤ l → l < at mechanism_section + 2 + size mechanism_section → at s ≤ l → l < at s + 2 + size s → s ≡ mechanism_section
  alone s l a b c d = grind (arith, lies)

  at_same : {s t : Section} → s ≡ t → at s ≡ at t
  at_same e = ap at e

  -- a count that is there and in its range is passed
  pub clear_count : (s : Section) → Clear image (at s) → at s + 2 ≤ len → InRange s (count image s) → Clear image (section_place image s)
  clear_count s clear held range r l small b = elim (cases_lt l (at s + 2)) [ inl h ↦ absurd (go b (clear r l small b) h) | inr h ↦ h ]
    where
      out : (t : Section) → s ≡ t → (count image t < least_count t) ⊎ (most_count t < count image t) → ⊥
      out t e (inl h) = let q = (subst (λ u. InRange u (count image u)) e range).0 in omega arith
      out t e (inr h) = let q = (subst (λ u. InRange u (count image u)) e range).1 in omega arith

      go : ImageBreaks image r l → at s ≤ l → l < at s + 2 → ⊥
      go (by_short_count t e q h) low high = let x = at_same (same s t (omega arith) (omega arith)) in omega arith
      go (by_short_section t e q h) low high = elim (lies s t) [ inl x ↦ omega arith | inr (inl x) ↦ (let y = at_same x in omega arith) | inr (inr x) ↦ omega arith ]
      go (by_count t e q h) low high = out t (same s t (omega arith) (omega arith)) h
      go (by_activation e h q g) low high = let x = at_same (alone s l (omega arith) (omega arith) low (omega arith)) in omega arith
      go (by_left_over e q h) low high = let x = ends s in omega arith
      go (by_total e q h) low high = omega arith

  -- the first m bytes of a section that is there are passed, as far as its activation bits stand inside the data
  clear_within : (s : Section) (m : ℕ) → m ≤ size s → Clear image (section_place image s) → at s + 2 + size s ≤ len → (s ≡ mechanism_section → (k : ℕ) → 2 * k < m → pair_at image (section_place image mechanism_section + 2 * k) < 8 * count image data_section) → Clear image (section_place image s + m)
  clear_within s m most clear held bits r l small b = elim (cases_lt l (at s + 2 + m)) [ inl h ↦ absurd (go b (clear r l small b) h) | inr h ↦ h ]
    where
      go : ImageBreaks image r l → at s + 2 ≤ l → l < at s + 2 + m → ⊥
      go (by_short_count t e q h) low high = let x = at_same (same s t (omega arith) (omega arith)) in omega arith
      go (by_short_section t e q h) low high = elim (lies s t) [ inl x ↦ omega arith | inr (inl x) ↦ (let y = subst (λ u. at u + 2 + size u ≤ len) x held in omega arith) | inr (inr x) ↦ omega arith ]
      go (by_count t e q h) low high = let x = at_same (same s t (omega arith) (omega arith)) in omega arith
      go (by_activation {k = k} e h q g) low high =
          let x = alone s l (omega arith) (omega arith) (omega arith) (omega arith) in
          let y = at_same x in
          let z = bits x k (omega arith) in
          let w = ap (pair_at image) q in
          omega arith
      go (by_left_over e q h) low high = let x = ends s in omega arith
      go (by_total e q h) low high = omega arith

  -- a section that is there, and whose activation bits, if it has any, stand inside the data, is passed
  pub clear_section : (s : Section) → Clear image (section_place image s) → at s + 2 + size s ≤ len → (s ≡ mechanism_section → BitsHeld image (count image mechanism_section)) → Clear image (at s + 2 + size s)
  clear_section s clear held bits = clear_within s (size s) (omega arith) clear held (λ e k h. bits e k (let x = ap size e in omega arith))

  -- WHAT THE FIRST BREACH EARNS

  -- what is broken where the image is clear up to, by the lowest rule there, is the refusal
  first_breach : (rule place : ℕ) → rule < 5 → Clear image place → ImageBreaks image rule place → ((r : ℕ) → ImageBreaks image r place → rule ≤ r) → ImageRefused image rule place
  first_breach rule place small clear broken lowest = record {
    broken = broken;
    earliest = λ r l h b. (small, elim (cases_lt place l) [ inl x ↦ inl x | inr x ↦ (let y = clear r l h b in let e : place ≡ l = omega arith in inr (e, lowest r (subst (ImageBreaks image r) (sym e) b))) ]);
  }

  numbered : (r l : ℕ) → ImageBreaks image r l → 1 ≤ r
  numbered r l b = grind arith

  pub refused_short_count : (s : Section) → Clear image (at s) → len < at s + 2 → ImageRefused image 1 (at s)
  refused_short_count s clear short = first_breach 1 (at s) (omega arith) clear (by_short_count s refl refl short) (λ r b. numbered r (at s) b)

  pub refused_short_section : (s : Section) → Clear image (section_place image s) → len < at s + 2 + size s → ImageRefused image 1 (section_place image s)
  refused_short_section s clear short = first_breach 1 (section_place image s) (omega arith) clear (by_short_section s refl refl short) (λ r b. numbered r (section_place image s) b)

  pub refused_count : (s : Section) → Clear image (at s) → at s + 2 ≤ len → (count image s < least_count s) ⊎ (most_count s < count image s) → ImageRefused image 2 (at s)
  refused_count s clear held out = first_breach 2 (at s) (omega arith) clear (by_count s refl refl out) lowest
    where
      lowest : (r : ℕ) → ImageBreaks image r (at s) → 2 ≤ r
      lowest r b = grind (arith, lies)

  pub refused_activation : (k : ℕ) → k < count image mechanism_section → Clear image (section_place image mechanism_section) → section_place image mechanism_section + 2 * count image mechanism_section ≤ len → BitsHeld image k → 8 * count image data_section ≤ pair_at image (section_place image mechanism_section + 2 * k) → ImageRefused image 3 (section_place image mechanism_section + 2 * k)
  refused_activation k few clear held bits out =
      first_breach 3 (section_place image mechanism_section + 2 * k) (omega arith)
      (clear_within mechanism_section (2 * k) (omega arith) clear held (λ e j h. bits j (omega arith)))
      (by_activation refl few refl out)
      lowest
    where
      other : (t : Section) → at t ≡ section_place image mechanism_section + 2 * k → ⊥
      other t q = elim (lies t mechanism_section) [ inl x ↦ omega arith | inr (inl x) ↦ (let y = at_same x in omega arith) | inr (inr x) ↦ omega arith ]

      lowest : (r : ℕ) → ImageBreaks image r (section_place image mechanism_section + 2 * k) → 3 ≤ r
      lowest r (by_short_count t e q h) = absurd (other t (sym q))
      lowest r (by_short_section t e q h) = absurd (elim (lies t mechanism_section) [ inl x ↦ omega arith | inr (inl x) ↦ (let y = subst (λ u. at u + 2 + size u ≤ len) (sym x) held in omega arith) | inr (inr x) ↦ omega arith ])
      lowest r (by_count t e q h) = absurd (other t (sym q))
      lowest r (by_activation e h q g) = omega arith
      lowest r (by_left_over e q h) = omega arith
      lowest r (by_total e q h) = omega arith

  -- an image that is clear up to its end breaks none of the first three rules
  past : image_end image ≤ len → (r l : ℕ) → image_end image ≤ l → ImageBreaks image r l → 4 ≤ r
  past whole r l far b = grind (arith, ends)

  pub refused_left_over : Clear image (image_end image) → image_end image < len → ImageRefused image 4 (image_end image)
  refused_left_over clear more = first_breach 4 (image_end image) (omega arith) clear (by_left_over refl refl more) (λ r b. past (omega arith) r (image_end image) (omega arith) b)

  -- nor the fourth, where it has no byte behind its end
  unbroken : Clear image (image_end image) → len ≡ image_end image → (r l : ℕ) → r < 5 → ImageBreaks image r l → ⊥
  unbroken clear whole r l small b = go b
    where
      go : ImageBreaks image r l → ⊥
      go (by_left_over e q h) = omega arith
      go c = let x = past (omega arith) r l (clear r l small b) b in grind arith

  pub refused_total : Clear image (image_end image) → len ≡ image_end image → (total (program_of image).lengths ≡ count image line_section → ⊥) → ImageRefused image 5 (at line_section)
  refused_total clear whole wrong = record { broken = by_total refl refl wrong; earliest = λ r l h b. absurd (unbroken clear whole r l h b) }

  pub sound : Clear image (image_end image) → len ≡ image_end image → total (program_of image).lengths ≡ count image line_section → ImageSound image
  sound clear whole right r l b = elim (cases_lt r 5) [ inl h ↦ unbroken clear whole r l h b | inr h ↦ go h b ]
    where
      go : 5 ≤ r → ImageBreaks image r l → ⊥
      go h (by_total e q x) = x right
      go h c = grind arith
