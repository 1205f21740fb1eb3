-- The refusal by each fault of an image. Assumes nothing.
use Rattle.std.specs.Prelude.{ℕ, List}
use Rattle.rules.specs.declared.refusal.Rule.TheVariants as rule
use Rattle.rules.specs.declared.refusal.Layer.TheVariants as layer
use Rattle.rules.specs.declared.refusal.Refusal.{Refusal}
use Rattle.rules.specs.Refusal.{rule_number}
use Rattle.rules.specs.Image.{ImageRefused}
use Rattle.image.specs.declared.fault.ImageFault.{ImageFault}
use Rattle.image.specs.declared.fault.ImageFault.TheVariants.{TooShort, CountOutOfRange, ActivationOutside, BytesLeftOver, WrongTotal}

-- the refusal by a fault, whole: the rule, the layer of the image, and the place
abbrev pub image_refusal : ImageFault → Refusal
image_refusal (TooShort place) = record { rule = rule.TooShort; layer = layer.Image; place = place }
image_refusal (CountOutOfRange place) = record { rule = rule.CountOutOfRange; layer = layer.Image; place = place }
image_refusal (ActivationOutside place) = record { rule = rule.ActivationOutside; layer = layer.Image; place = place }
image_refusal (BytesLeftOver place) = record { rule = rule.BytesLeftOver; layer = layer.Image; place = place }
image_refusal (WrongTotal place) = record { rule = rule.WrongTotal; layer = layer.Image; place = place }

-- an image is refused by the rule of a fault, at its place
abbrev pub RefusedBy : List ℕ → ImageFault → Type 0
RefusedBy image e = ImageRefused image (rule_number (image_refusal e).rule) (image_refusal e).place
