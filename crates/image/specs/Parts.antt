-- What a section that the reader hands out says of the image that it is a part of. Assumes nothing.
use Rattle.std.specs.Prelude.{◌≡◌, ℕ, ◌*◌, ◌<◌, List, take, drop, slice_index}
use Rattle.rules.specs.Program.{Program, module_first}
use Rattle.rules.specs.Image as rules
use Rattle.rules.specs.Image.{data_section, mechanism_section, module_section, line_section, record_size, section_place, count}
use Rattle.image.specs.declared.sections.Kind.{Kind}
use Rattle.image.specs.declared.sections.Kind.TheVariants as kind
use Rattle.image.specs.declared.sections.Part.{Part}
use Rattle.image.specs.declared.sections.Section.{Section}
use Rattle.image.specs.declared.sections.Section.TheVariants.{Data, Mechanisms, Modules, Lines}

-- the section of the rules that a kind names
abbrev pub section_of : Kind → rules.Section
section_of kind.Data = data_section
section_of kind.Mechanisms = mechanism_section
section_of kind.Modules = module_section
section_of kind.Lines = line_section

-- the kind of a section
abbrev pub kind_of : Section → Kind
kind_of (Data p) = kind.Data
kind_of (Mechanisms p) = kind.Mechanisms
kind_of (Modules p) = kind.Modules
kind_of (Lines p) = kind.Lines

-- the part of the image that a section is
abbrev pub part_of : Section → Part
part_of (Data p) = p
part_of (Mechanisms p) = p
part_of (Modules p) = p
part_of (Lines p) = p

-- the bytes of a section of an image, its count left out
abbrev pub section_bytes : List ℕ → rules.Section → List ℕ
section_bytes image s = take (record_size s * count image s) (drop (section_place image s) image)

-- the first line of each of the seven modules
abbrev pub StartsAre : Program → List ℕ → Type 0
StartsAre p starts = (m : ℕ) → m < 7 → slice_index starts m ≡ module_first p m
