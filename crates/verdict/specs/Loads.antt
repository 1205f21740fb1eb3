-- What a load's fault tells. Assumes nothing.
use Rattle.std.specs.Prelude.{ℕ, List, Some, None, Option}
use Rattle.rules.specs.declared.refusal.Refusal.{Refusal}
use Rattle.rules.specs.Load.{Earns}
use Rattle.image.specs.Refusals.{image_refusal}
use Rattle.text.specs.Faults.{text_refusal}
use Rattle.text.specs.declared.fault.CheckFault.{CheckFault}
use Rattle.text.specs.declared.fault.CheckFault.TheVariants as check
use Rattle.verdict.specs.declared.fault.LoadFault.{LoadFault}
use Rattle.verdict.specs.declared.fault.LoadFault.TheVariants.{Image, Text, Memory}

-- the load's fault that a check's fault becomes
abbrev pub from_check : CheckFault → LoadFault
from_check (check.Text e) = Text e
from_check check.Memory = Memory

-- the refusal that a load's fault tells; want of memory is none
abbrev pub load_refusal : LoadFault → Option Refusal
load_refusal (Image e) = Some (image_refusal e)
load_refusal (Text e) = Some (text_refusal e)
load_refusal Memory = None

-- what a load's fault tells of an image: the refusal that it earns; want of memory tells nothing
abbrev pub RefusedSo : List ℕ → LoadFault → Type 0
RefusedSo image (Image e) = Earns image (image_refusal e)
RefusedSo image (Text e) = Earns image (text_refusal e)
RefusedSo image Memory = Unit {0}
