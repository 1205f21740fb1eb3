-- From what each layer tells to what a load tells. Assumes nothing.
use Rattle.std.proofs.Common.{◌≡◌, ℕ, List, sym, ap, ◌∙◌, subst}
use Rattle.rules.specs.Refusal.{rule_number}
use Rattle.rules.specs.Program as rules
use Rattle.rules.specs.Image.{ImageSound, program_of}
use Rattle.rules.specs.Verdict.{TextRefused}
use Rattle.rules.specs.Load.{by_image, by_text, Loads}
use Rattle.image.specs.declared.fault.ImageFault.{ImageFault}
use Rattle.image.specs.declared.fault.ImageFault.TheVariants.{TooShort, CountOutOfRange, ActivationOutside, BytesLeftOver, WrongTotal}
use Rattle.image.specs.declared.program.Program.{Program}
use Rattle.image.specs.Held.{meant}
use Rattle.image.specs.Refusals.{RefusedBy}
use Rattle.text.specs.declared.fault.CheckFault.{CheckFault}
use Rattle.text.specs.declared.fault.CheckFault.TheVariants as check
use Rattle.text.specs.declared.formed.Formed.{Formed}
use Rattle.text.specs.Faults.{fault_rule, fault_place}
use Rattle.text.specs.Verdicts.{Told}
use Rattle.verdict.specs.declared.accepted.Accepted.{Accepted}
use Rattle.verdict.specs.declared.fault.LoadFault.{LoadFault}
use Rattle.verdict.specs.declared.fault.LoadFault.TheVariants.{Image}
use Rattle.verdict.specs.Loads.{from_check, RefusedSo}

pub by_the_image : (image : List ℕ) (e : ImageFault) (f : LoadFault) → RefusedBy image e → f ≡ Image e → RefusedSo image f
by_the_image image e f r q = subst (RefusedSo image) (sym q) (told e r)
  where
    told : (e : ImageFault) → RefusedBy image e → RefusedSo image (Image e)
    told (TooShort o) r = by_image r
    told (CountOutOfRange o) r = by_image r
    told (ActivationOutside o) r = by_image r
    told (BytesLeftOver o) r = by_image r
    told (WrongTotal o) r = by_image r

pub by_the_text : (image : List ℕ) (p : Program) (c : CheckFault) (f : LoadFault) → ImageSound image → meant p ≡ program_of image → Told p c → f ≡ from_check c → RefusedSo image f
by_the_text image p (check.Text e) f s q t k = subst (RefusedSo image) (sym k) (by_text s (subst (λ (x : rules.Program). TextRefused x (rule_number (fault_rule e)) (fault_place e)) q t))
by_the_text image p check.Memory f s q t k = subst (RefusedSo image) (sym k) tt

pub loaded : (image : List ℕ) (p : Program) (f : Formed) (a : Accepted) → ImageSound image → meant p ≡ program_of image → f.layout.program ≡ p → a.formed ≡ f → Loads image (meant a.formed.layout.program)
loaded image p f a s q e k = record { sound = s; program = ap (λ (x : Formed). meant x.layout.program) k ∙ ap meant e ∙ q; unbroken = a.unbroken }
