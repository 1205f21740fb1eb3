-- What the reader hands out of a whole image. Assumes nothing.
use Rattle.std.specs.Prelude.{◌≡◌, ℕ, List}
use Rattle.rules.specs.Image.{section_place}
use Rattle.image.specs.declared.sections.Kind.{Kind}
use Rattle.image.specs.declared.sections.Section.{Section}
use Rattle.image.specs.Parts.{section_of, kind_of, part_of, section_bytes}

-- x is the section of kind k of an image: exactly its bytes, at their offset
pub record IsSection (image : List ℕ) (k : Kind) (x : Section) : Type 0 where
  pub kind : kind_of x ≡ k
  pub place : (part_of x).offset ≡ section_place image (section_of k)
  pub bytes : (part_of x).bytes.now ≡ section_bytes image (section_of k)
