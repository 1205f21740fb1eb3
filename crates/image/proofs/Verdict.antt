-- What the parts of the reader find, as the verdict on the image. Assumes nothing.
use Rattle.std.proofs.Common.{◌≡◌, ℕ, ◌+◌, ◌*◌, ◌/◌, ◌<◌, ◌≤◌, List, length, get_or, take, drop, sym, ap, ◌∙◌, subst, arith}
use Rattle.rules.specs.Program.{total}
use Rattle.rules.specs.Image as rules
use Rattle.rules.specs.Image.{data_section, mechanism_section, module_section, record_size, pair_at, pairs_from, count_place, count, section_place, program_of}
use Rattle.image.specs.declared.fault.ImageFault.{ImageFault}
use Rattle.image.specs.declared.sections.Kind.{Kind}
use Rattle.image.specs.declared.sections.Kind.TheVariants.{Mechanisms, Modules}
use Rattle.image.specs.declared.sections.Part.{Part}
use Rattle.image.specs.declared.sections.Section.{Section}
use Rattle.image.specs.Refusals.{RefusedBy}
use Rattle.image.specs.Parts.{section_of, part_of, StartsAre}
use Rattle.image.specs.Reading.{Found, Missing, short_count, bad_count, short_section, PairsBelow, FirstOutside}
use Rattle.image.specs.Whole.{IsSection}
use Rattle.image.proofs.Places.{Clear, BitsHeld, clear_count, clear_section, refused_short_count, refused_short_section, refused_count, refused_activation}
use Rattle.image.proofs.Pairs.{part_pair, pairs_whole}

module _ (image : List ℕ) where
  -- the place of the count of a section of kind k
  abbrev at : Kind → ℕ
  at k = count_place image (section_of k)

  abbrev size : Kind → ℕ
  size k = record_size (section_of k) * count image (section_of k)

  -- what is missing in a section that the image is clear up to is its refusal
  pub missing_refused : (from : List ℕ) (s : rules.Section) (place : ℕ) (e : ImageFault) → from ≡ image → place ≡ count_place image s → Clear image (count_place image s) → Missing from place s e → RefusedBy image e
  missing_refused from s place e same here clear m = go e (subst (λ (l : ℕ). Missing image l s e) here (subst (λ (l : List ℕ). Missing l place s e) same m))
    where
      go : (f : ImageFault) → Missing image (count_place image s) s f → RefusedBy image f
      go _ (short_count h) = refused_short_count image s clear h
      go _ (bad_count h o) = refused_count image s clear h o
      go _ (short_section h o) = refused_short_section image s (clear_count image s clear h.there h.range) o

  pub found_at : (from : List ℕ) (k : Kind) (place : ℕ) (x : Section) → from ≡ image → place ≡ at k → Found from place k x → Found image (at k) k x
  found_at from k place x same here f = subst (λ (l : ℕ). Found image l k x) here (subst (λ (l : List ℕ). Found l place k x) same f)

  -- a section that stands where it is to stand
  module _ (k : Kind) (x : Section) (found : Found image (at k) k x) where
    pub counted : Clear image (at k) → Clear image (section_place image (section_of k))
    counted clear = clear_count image (section_of k) clear found.counted.there found.counted.range

    pub passed : Clear image (at k) → (section_of k ≡ mechanism_section → BitsHeld image (count image mechanism_section)) → Clear image (at k + 2 + size k)
    passed clear bits = clear_section image (section_of k) (counted clear) found.held bits

    pub is_section : IsSection image k x
    is_section = record { kind = found.kind; place = found.part.at; bytes = found.part.bytes }

    -- the place behind it
    pub part_end : (r : ℕ) → r ≡ (part_of x).offset + length (part_of x).bytes.now → r ≡ at k + 2 + size k
    part_end r e = let a = found.part.at in let b = found.part.long in omega arith

    -- the part that was taken of it
    module _ (p : Part) (is : p ≡ part_of x) where
      pub part_bytes : p.bytes.now ≡ take (size k) (drop (section_place image (section_of k)) image)
      part_bytes = ap (λ (q : Part). q.bytes.now) is ∙ found.part.bytes

      pub part_long : length p.bytes.now ≡ size k
      part_long = ap (λ (q : Part). length q.bytes.now) is ∙ found.part.long

      pub part_place : p.offset ≡ section_place image (section_of k)
      part_place = ap (λ (q : Part). q.offset) is ∙ found.part.at

  -- the activation bits
  module _ (x : Section) (found : Found image (at Mechanisms) Mechanisms x) (p : Part) (is : p ≡ part_of x) (limit : ℕ) (bits : limit ≡ 8 * count image data_section) where
    bit_at : (k : ℕ) → k < count image mechanism_section → pair_at p.bytes.now (2 * k) ≡ pair_at image (section_place image mechanism_section + 2 * k)
    bit_at k h = part_pair image p.bytes.now (section_place image mechanism_section) (size Mechanisms) (2 * k) (part_bytes Mechanisms x found p is) (omega arith)

    pub bits_held : PairsBelow p.bytes.now limit (length p.bytes.now / 2) → BitsHeld image (count image mechanism_section)
    bits_held all k h =
        let l = part_long Mechanisms x found p is in
        let e = bit_at k h in
        let q = all k (omega arith) in
        omega arith

    pub outside_refused : (e : ImageFault) → Clear image (at Mechanisms) → FirstOutside limit p e → RefusedBy image e
    outside_refused e clear f =
        let l = part_long Mechanisms x found p is in
        let few : f.index < count image mechanism_section = (let w = f.within in omega arith) in
        let here = bit_at f.index few in
        let before : BitsHeld image f.index = λ k h. (let q = f.before k h in let b = bit_at k (omega arith) in omega arith) in
        let out : 8 * count image data_section ≤ pair_at image (section_place image mechanism_section + 2 * f.index) = (let o = f.outside in omega arith) in
        let place = ap (λ (o : ℕ). o + 2 * f.index) (part_place Mechanisms x found p is) in
        subst (RefusedBy image) (sym f.named) (subst (rules.ImageRefused image 3) (sym place) (refused_activation image f.index few (counted Mechanisms x found clear) found.held before out))

  -- the modules' lengths
  module _ (x : Section) (found : Found image (at Modules) Modules x) (p : Part) (is : p ≡ part_of x) where
    pub lengths_are : pairs_from p.bytes.now 0 (length p.bytes.now / 2) ≡ (program_of image).lengths
    lengths_are = pairs_whole image p.bytes.now (section_place image module_section) (count image module_section) (part_bytes Modules x found p is) (part_long Modules x found p is)

    pub starts_are : (starts : List ℕ) → ((m : ℕ) → m < 7 → get_or starts m 0 ≡ total (take m (pairs_from p.bytes.now 0 (length p.bytes.now / 2)))) → StartsAre (program_of image) starts
    starts_are starts h m lt = h m lt ∙ ap (λ (ns : List ℕ). total (take m ns)) lengths_are
