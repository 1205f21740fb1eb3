-- The null program and its image, worked through. Assumes nothing.
use Rattle.std.specs.Prelude.{◌≡◌, ℕ, List, [], ◌∷◌, ◌++◌, length, take, replicate}
use Rattle.rules.specs.Program.{null_program}
use Rattle.rules.specs.Image.{image_of}
use Rattle.rules.specs.Verdict.{Accepted, Certified}
use Rattle.rules.specs.declared.refusal.Layer.TheVariants.{Image}
use Rattle.rules.specs.Load.{LoadRefused, Loads}

-- its image
abbrev pub null_image : List ℕ
null_image = image_of null_program

-- it is accepted, with a certificate of zeros
abbrev pub NullAccepted : Type 0
NullAccepted = Accepted null_program × Certified null_program 0 0 0

-- its image has 39 bytes and is loaded
abbrev pub NullLoads : Type 0
NullLoads = (length null_image ≡ 39) × Loads null_image null_program

-- the first 38 bytes of its image are refused: a count is cut short at 37
abbrev pub CutRefused : Type 0
CutRefused = LoadRefused (take 38 null_image) 1 Image 37

-- its image with one byte more is refused: that byte, at 39, is left over
abbrev pub LongerRefused : Type 0
LongerRefused = LoadRefused (null_image ++ (0 ∷ [])) 4 Image 39

-- an image with 16 data bytes is refused: the count at 0 is out of range
abbrev pub SixteenRefused : Type 0
SixteenRefused = LoadRefused (image_of (record { initial = replicate 16 0; activation = []; lengths = replicate 7 0; lines = [] })) 2 Image 0
