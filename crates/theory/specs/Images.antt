-- The theorems of images and loads. Assumes nothing.
use Rattle.std.specs.Prelude.{◌≡◌, ℕ, List}
use Rattle.rules.specs.Number.{Bytes}
use Rattle.rules.specs.Program.{Program}
use Rattle.rules.specs.Image.{program_of, image_of, ImageSound}
use Rattle.rules.specs.Form.{Shaped}
use Rattle.rules.specs.Verdict.{Accepted}
use Rattle.rules.specs.declared.refusal.Layer.{Layer}
use Rattle.rules.specs.Load.{LoadRefused, Loads}

-- a program's image holds the program
abbrev pub ImagesHold : Type 0
ImagesHold = (p : Program) → program_of (image_of p) ≡ p

-- the image of a program that has its shape breaks no rule of the image
abbrev pub ImagesAreSound : Type 0
ImagesAreSound = (p : Program) → Shaped p → ImageSound (image_of p)

-- the program of an image of bytes that breaks no rule of the image has its shape
abbrev pub SoundImagesAreShaped : Type 0
SoundImagesAreShaped = (image : List ℕ) → Bytes image → ImageSound image → Shaped (program_of image)

-- an image of bytes breaks no rule of the image exactly if it is the image of a program that has its shape: whose counts are in range, whose
-- activation bits are inside the data and whose lengths add up
abbrev pub SoundImagesAreEncodings : Type 0
SoundImagesAreEncodings =
    (image : List ℕ) → Bytes image →
    (ImageSound image → (p : Program) × Shaped p × (image ≡ image_of p)) × ((p : Program) → Shaped p → image ≡ image_of p → ImageSound image)

-- what is loaded is accepted
abbrev pub LoadsAreAccepted : Type 0
LoadsAreAccepted = (image : List ℕ) (p : Program) → Bytes image → Loads image p → Accepted p

-- a load has one refusal at most
abbrev pub RefusalsAlike : Type 0
RefusalsAlike =
    (image : List ℕ) (r s : ℕ) (a b : Layer) (l m : ℕ) → LoadRefused image r a l → LoadRefused image s b m → (r ≡ s) × (a ≡ b) × (l ≡ m)

-- what is refused is not loaded
abbrev pub RefusedNotLoaded : Type 0
RefusedNotLoaded = (image : List ℕ) (p : Program) (r : ℕ) (a : Layer) (l : ℕ) → LoadRefused image r a l → Loads image p → ⊥
