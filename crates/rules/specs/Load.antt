-- What becomes of an image that is loaded. Assumes nothing.
use Rattle.std.specs.Prelude.{◌≡◌, ℕ, List}
use Rattle.rules.specs.declared.refusal.Layer.{Layer}
use Rattle.rules.specs.declared.refusal.Layer.TheVariants.{Image, Text}
use Rattle.rules.specs.declared.refusal.Refusal.{Refusal}
use Rattle.rules.specs.Refusal.{rule_number}
use Rattle.rules.specs.Program.{Program}
use Rattle.rules.specs.Image.{ImageRefused, ImageSound, program_of}
use Rattle.rules.specs.Verdict.{TextRefused, Breaks}

-- the whole refusal of a load, by number, layer and place: the image's, or, of a sound image, that of the text of its program
pub data LoadRefused (image : List ℕ) (rule : ℕ) : Layer → ℕ → Type 0 where
  by_image : {place : ℕ} → ImageRefused image rule place → LoadRefused image rule Image place
  by_text : {place : ℕ} → ImageSound image → TextRefused (program_of image) rule place → LoadRefused image rule Text place

-- an image earns this refusal
abbrev pub Earns : List ℕ → Refusal → Type 0
Earns image r = LoadRefused image (rule_number r.rule) r.layer r.place

-- an image that breaks no rule of the image or of the text is loaded, and gives its program
pub record Loads (image : List ℕ) (p : Program) : Type 0 where
  pub sound : ImageSound image
  pub program : p ≡ program_of image
  pub unbroken : (rule place : ℕ) → Breaks p rule place → ⊥
