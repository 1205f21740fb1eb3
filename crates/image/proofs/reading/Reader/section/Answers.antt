use Rattle.std.proofs.Common.{◌≡◌, ℕ, ◌+◌, ◌*◌, length, sym, ap, ◌∙◌, subst, ap₂, arith, rules}
use Rattle.rules.specs.Image.{pair_at, record_size}
use Rattle.image.specs.declared.fault.ImageFault.TheVariants.{TooShort}
use Rattle.image.specs.declared.sections.Part.{Part}
use Rattle.image.specs.Parts.{section_of, kind_of, part_of}
use Rattle.image.specs.Reading.{Stands, Missing, short_section}
use Rattle.image.proofs.reading.Reader.section.Goals as goal
use Rattle.image.proofs.reading.Reader.section.Goals.{After-part, Joined-kind}

-- how many bytes the records fill
size : (c : After-part) → c.record_size.result * c.in_ok-n.n ≡ record_size (section_of c.args.kind) * pair_at c.args.self.now.image.now c.args.self.now.place
size c = ap₂ (λ (a b : ℕ). a * b) c.record_size.ensures c.in_ok-n.ensures.count.2

pub returns-in_err-part-clause-section : goal.returns-in_err-part-clause-section
returns-in_err-part-clause-section c =
    let count = c.in_ok-n.ensures.count in
    let told = c.in_err-part.ensures.part in
    let long = ap length c.in_ok-n.ensures.image in
    let q = size (goal.at.returns-in_err-part-clause-section c).After-part in
    let missing = subst (Missing c.args.self.now.image.now c.args.self.now.place (section_of c.args.kind)) (sym (told.1 ∙ ap TooShort count.0)) (short_section count.1 (omega arith)) in
    search rules

-- the section is of its kind, and is the part that was found
made : (c : Joined-kind) → (kind_of c.match-kind.section ≡ c.args.kind) × (part_of c.match-kind.section ≡ c.in_ok-part.part)
made c = search rules

pub returns-clause-section : goal.returns-clause-section
returns-clause-section c =
    let place = c.args.self.now.place in
    let n = record_size (section_of c.args.kind) * pair_at c.args.self.now.image.now place in
    let count = c.in_ok-n.ensures.count in
    let same = c.in_ok-n.ensures.image in
    let told = c.in_ok-part.ensures.part in
    let long = ap length same in
    let q = size (goal.at.returns-clause-section c).After-part in
    let is = made c in
    let stands : Stands c.args.self.now.image.now (place + 2) n c.in_ok-part.part = record { at = told.2.at ∙ count.0; bytes = (let b = told.2.bytes in cc); long = told.2.long ∙ q } in
    let found = subst (λ (p : Part). (c.part.new.self.place ≡ p.offset + length p.bytes.now) × Stands c.args.self.now.image.now (place + 2) n p) (sym is.1) (omega (arith, told.2.at, told.2.long), stands) in
    (found.0, record { counted = count.1; kind = is.0; held = omega arith; part = found.1 })
