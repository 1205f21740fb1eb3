-- The sections of a sound image hold its program, which has its shape. Assumes nothing.
use Rattle.std.proofs.Common.{◌≡◌, ℕ, ◌+◌, ◌*◌, ◌/◌, ◌≤◌, List, length, get_or, take, drop, sym, refl, ap, ◌∙◌, inl, inr, arith}
use Rattle.std.proofs.lemmas.List.{length-take-le, length-drop}
use Rattle.std.proofs.lemmas.Bool.{cases_lt}
use Rattle.rules.specs.Program.{total}
use Rattle.rules.specs.Image as rules
use Rattle.rules.specs.Image.{data_section, mechanism_section, module_section, line_section, record_size, pairs_from, lines_from, count, section_place, program_of, ImageSound, by_short_section}
use Rattle.rules.specs.Form.{InRange, BitsInside, records}
use Rattle.image.specs.declared.sections.Kind.{Kind}
use Rattle.image.specs.declared.sections.Kind.TheVariants.{Data, Mechanisms, Modules, Lines}
use Rattle.image.specs.declared.sections.Part.{Part}
use Rattle.image.specs.declared.sections.Section.{Section}
use Rattle.image.specs.Parts.{section_of, part_of, section_bytes}
use Rattle.image.specs.Whole.{IsSection}
use Rattle.theory.proofs.Images.{least, most, read, held, all_lines_counted}
use Rattle.image.proofs.Pairs.{pairs_whole, lines_whole}

module _ (image : List ℕ) (sound : ImageSound image) where
  section_long : (s : rules.Section) → length (section_bytes image s) ≡ record_size s * count image s
  section_long s =
      let inside : section_place image s + record_size s * count image s ≤ length image = (elim (cases_lt (length image) (section_place image s + record_size s * count image s)) [ inl h ↦ absurd (sound 1 (section_place image s) (by_short_section s refl refl h)) | inr h ↦ h ]) in
      length-take-le (record_size s * count image s) (drop (section_place image s) image) (simp length-drop (omega arith))

  -- what the reader makes of each section is that part of the program
  module _ (x : Section) (p : Part) (is : p ≡ part_of x) where
    bytes_are : (k : Kind) → IsSection image k x → p.bytes.now ≡ section_bytes image (section_of k)
    bytes_are k s = ap (λ (q : Part). q.bytes.now) is ∙ s.bytes

    long : (k : Kind) → IsSection image k x → length p.bytes.now ≡ record_size (section_of k) * count image (section_of k)
    long k s = ap length (bytes_are k s) ∙ section_long (section_of k)

    pub initial_is : IsSection image Data x → p.bytes.now ≡ (program_of image).initial
    initial_is s = let q : 1 * count image data_section ≡ count image data_section = omega arith in bytes_are Data s ∙ ap (λ (n : ℕ). take n (drop 2 image)) q

    pub activation_is : IsSection image Mechanisms x → pairs_from p.bytes.now 0 (length p.bytes.now / 2) ≡ (program_of image).activation
    activation_is s = pairs_whole image p.bytes.now (section_place image mechanism_section) (count image mechanism_section) (bytes_are Mechanisms s) (long Mechanisms s)

    pub lengths_are : IsSection image Modules x → pairs_from p.bytes.now 0 (length p.bytes.now / 2) ≡ (program_of image).lengths
    lengths_are s = pairs_whole image p.bytes.now (section_place image module_section) (count image module_section) (bytes_are Modules s) (long Modules s)

    pub lines_are : IsSection image Lines x → lines_from p.bytes.now 0 (length p.bytes.now / 4) ≡ (program_of image).lines
    lines_are s = lines_whole image p.bytes.now (section_place image line_section) (count image line_section) (bytes_are Lines s) (long Lines s)

  -- the shape of the program, of what has as many records and the same numbers
  pub in_range : (s : rules.Section) (n : ℕ) → n ≡ records (program_of image) s → InRange s n
  in_range s n e = let r = read image sound s in let a = least image sound s in let b = most image sound s in (omega arith, omega arith)

  pub bits_inside : (ns : List ℕ) (d : ℕ) → ns ≡ (program_of image).activation → d ≡ length (program_of image).initial → BitsInside ns d
  bits_inside ns d e f k h =
      let l = ap length e in
      let v = ap (λ (l : List ℕ). get_or l k 0) e in
      let w = held image sound k (omega arith) in
      omega arith

  pub all_lines : (ns : List ℕ) (n : ℕ) → ns ≡ (program_of image).lengths → n ≡ length (program_of image).lines → total ns ≡ n
  all_lines ns n e f = ap total e ∙ all_lines_counted image sound ∙ sym (read image sound line_section) ∙ sym f
