-- An image: four sections in fixed order, each after its count; the program that it holds, and the refusal that it earns. Assumes nothing.
use Rattle.std.specs.Prelude.{◌≡◌, ℕ, zero, suc, ◌+◌, ◌*◌, ◌/◌, ◌%◌, ◌<◌, ◌≤◌, ◌⊎◌, List, [], ◌∷◌, ◌++◌, length, take, drop, ◌≢◌, slice_index}
use Rattle.rules.specs.declared.line.Line.{Line}
use Rattle.rules.specs.Refusal.{rule_number}
use Rattle.rules.specs.declared.refusal.Rule.TheVariants.{TooShort, CountOutOfRange, ActivationOutside, BytesLeftOver, WrongTotal}
use Rattle.rules.specs.Number.{number}
use Rattle.rules.specs.Program.{Program, total}

-- the sections, in their order
pub data Section : Type 0 where
  data_section mechanism_section module_section line_section : Section

-- how many bytes a record of a section has
abbrev pub record_size : Section → ℕ
record_size data_section = 1
record_size mechanism_section = 2
record_size module_section = 2
record_size line_section = 4

-- the smallest count that a section may have
abbrev pub least_count : Section → ℕ
least_count data_section = 17
least_count mechanism_section = 0
least_count module_section = 7
least_count line_section = 0

-- the largest count that a section may have
abbrev pub most_count : Section → ℕ
most_count data_section = 1024
most_count mechanism_section = 32
most_count module_section = 7
most_count line_section = 2048

-- two bytes as a number, the low one first
abbrev pub pair_at : List ℕ → ℕ → ℕ
pair_at image place = number image place 2

-- the place behind the section whose count stands at a place
abbrev pub behind : List ℕ → Section → ℕ → ℕ
behind image s place = place + 2 + record_size s * pair_at image place

-- the place of a section's count
abbrev pub count_place : List ℕ → Section → ℕ
count_place image data_section = 0
count_place image mechanism_section = behind image data_section 0
count_place image module_section = behind image mechanism_section (behind image data_section 0)
count_place image line_section = behind image module_section (behind image mechanism_section (behind image data_section 0))

-- a section's count
abbrev pub count : List ℕ → Section → ℕ
count image s = pair_at image (count_place image s)

-- the place of a section's first record
abbrev pub section_place : List ℕ → Section → ℕ
section_place image s = count_place image s + 2

-- the place behind the last section
abbrev pub image_end : List ℕ → ℕ
image_end image = behind image line_section (count_place image line_section)

-- n numbers of two bytes from a place on
abbrev pub pairs_from : List ℕ → ℕ → ℕ → List ℕ
pairs_from image place zero = []
pairs_from image place (suc n) = pair_at image place ∷ pairs_from image (place + 2) n

-- the line at a place: code, mode and an operand of two bytes
abbrev pub line_from : List ℕ → ℕ → Line
line_from image place = record { code = slice_index image place; mode = slice_index image (place + 1); operand = pair_at image (place + 2) }

-- n lines from a place on
abbrev pub lines_from : List ℕ → ℕ → ℕ → List Line
lines_from image place zero = []
lines_from image place (suc n) = line_from image place ∷ lines_from image (place + 4) n

-- the program that an image holds
abbrev pub program_of : List ℕ → Program
program_of image = record {
  initial = take (count image data_section) (drop 2 image);
  activation = pairs_from image (section_place image mechanism_section) (count image mechanism_section);
  lengths = pairs_from image (section_place image module_section) (count image module_section);
  lines = lines_from image (section_place image line_section) (count image line_section);
}

-- a number as two bytes, the low one first
abbrev pub two_bytes : ℕ → List ℕ
two_bytes n = n % 256 ∷ n / 256 ∷ []

-- numbers as bytes, two for each
abbrev pub pairs_bytes : List ℕ → List ℕ
pairs_bytes [] = []
pairs_bytes (n ∷ ns) = two_bytes n ++ pairs_bytes ns

-- lines as bytes, four for each
abbrev pub lines_bytes : List Line → List ℕ
lines_bytes [] = []
lines_bytes (x ∷ xs) = (x.code ∷ x.mode ∷ two_bytes x.operand) ++ lines_bytes xs

-- the image of a program
abbrev pub image_of : Program → List ℕ
image_of p =
    two_bytes (length p.initial) ++ (p.initial
    ++ (two_bytes (length p.activation) ++ (pairs_bytes p.activation
    ++ (two_bytes (length p.lengths) ++ (pairs_bytes p.lengths
    ++ (two_bytes (length p.lines) ++ lines_bytes p.lines))))))

-- the rules of the image by their numbers, and the places where they are broken
pub data ImageBreaks (image : List ℕ) (rule place : ℕ) : Type 0 where
  -- fewer bytes are left than a count or a section needs
  by_short_count : (s : Section) → rule ≡ rule_number TooShort → place ≡ count_place image s → length image < place + 2 → ImageBreaks image rule place
  by_short_section : (s : Section) → rule ≡ rule_number TooShort → place ≡ section_place image s → length image < place + record_size s * count image s → ImageBreaks image rule place
  -- a count outside its range
  by_count : (s : Section) → rule ≡ rule_number CountOutOfRange → place ≡ count_place image s → (count image s < least_count s) ⊎ (most_count s < count image s) → ImageBreaks image rule place
  -- an activation bit outside the data
  by_activation : {k : ℕ} → rule ≡ rule_number ActivationOutside → k < count image mechanism_section → place ≡ section_place image mechanism_section + 2 * k → 8 * count image data_section ≤ pair_at image place → ImageBreaks image rule place
  -- bytes behind the last section
  by_left_over : rule ≡ rule_number BytesLeftOver → place ≡ image_end image → place < length image → ImageBreaks image rule place
  -- the modules' lengths do not add up to the number of lines
  by_total : rule ≡ rule_number WrongTotal → place ≡ count_place image line_section → (total (program_of image).lengths ≢ count image line_section) → ImageBreaks image rule place

-- the refusal that is given: the first four rules follow the bytes, so that the first place counts, and at one place the lowest rule; the fifth comes after them
pub record ImageRefused (image : List ℕ) (rule place : ℕ) : Type 0 where
  pub broken : ImageBreaks image rule place
  pub earliest : (r l : ℕ) → r < rule_number WrongTotal → ImageBreaks image r l → (rule < rule_number WrongTotal) × ((place < l) ⊎ ((place ≡ l) × (rule ≤ r)))

-- an image that breaks no rule of the image
abbrev pub ImageSound : List ℕ → Type 0
ImageSound image = (r l : ℕ) → ImageBreaks image r l → ⊥
