-- What the parts of the reader find in an image: a part, a section, activation bits. Assumes nothing.
use Rattle.std.specs.Prelude.{◌≡◌, ℕ, ◌+◌, ◌*◌, ◌/◌, ◌<◌, ◌≤◌, ◌⊎◌, List, length, take, drop}
use Rattle.rules.specs.Image as rules
use Rattle.rules.specs.Image.{record_size, least_count, most_count, pair_at}
use Rattle.rules.specs.Form.{InRange}
use Rattle.image.specs.declared.fault.ImageFault.{ImageFault}
use Rattle.image.specs.declared.fault.ImageFault.TheVariants.{TooShort, CountOutOfRange, ActivationOutside}
use Rattle.image.specs.declared.sections.Kind.{Kind}
use Rattle.image.specs.declared.sections.Part.{Part}
use Rattle.image.specs.declared.sections.Section.{Section}
use Rattle.image.specs.Parts.{section_of, kind_of, part_of}

-- p is the part of an image that has n bytes from a place on
pub record Stands (image : List ℕ) (place n : ℕ) (p : Part) : Type 0 where
  pub at : p.offset ≡ place
  pub bytes : p.bytes.now ≡ take n (drop place image)
  pub long : length p.bytes.now ≡ n

-- a count stands at a place of an image, and is in the range of its section
pub record Counted (image : List ℕ) (place : ℕ) (s : rules.Section) : Type 0 where
  pub there : place + 2 ≤ length image
  pub range : InRange s (pair_at image place)

-- x is the section of kind k whose count stands at a place of an image
pub record Found (image : List ℕ) (place : ℕ) (k : Kind) (x : Section) : Type 0 where
  pub counted : Counted image place (section_of k)
  pub kind : kind_of x ≡ k
  pub held : place + 2 + record_size (section_of k) * pair_at image place ≤ length image
  pub part : Stands image (place + 2) (record_size (section_of k) * pair_at image place) (part_of x)

-- the first thing that is wrong with the section whose count is to stand at a place of an image
pub data Missing (image : List ℕ) (place : ℕ) (s : rules.Section) : ImageFault → Type 0 where
  short_count : length image < place + 2 → Missing image place s (TooShort place)
  bad_count : place + 2 ≤ length image → (pair_at image place < least_count s) ⊎ (most_count s < pair_at image place) → Missing image place s (CountOutOfRange place)
  short_section : Counted image place s → length image < place + 2 + record_size s * pair_at image place → Missing image place s (TooShort (place + 2))

-- each of the first n numbers of two bytes is below a limit
abbrev pub PairsBelow : List ℕ → ℕ → ℕ → Type 0
PairsBelow bytes limit n = (k : ℕ) → k < n → pair_at bytes (2 * k) < limit

-- the first number of two bytes that is not below a limit, in a part of an image
pub record FirstOutside (limit : ℕ) (p : Part) (e : ImageFault) : Type 0 where
  pub index : ℕ
  pub within : index < length p.bytes.now / 2
  pub before : PairsBelow p.bytes.now limit index
  pub outside : limit ≤ pair_at p.bytes.now (2 * index)
  pub named : e ≡ ActivationOutside (p.offset + 2 * index)
