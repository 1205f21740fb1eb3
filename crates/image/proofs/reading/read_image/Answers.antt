use Rattle.std.proofs.Common.{◌≡◌, ◌*◌, ◌/◌, length, sym, refl, ap, ◌∙◌, subst, rules, arith}
use Rattle.rules.specs.Program.{total}
use Rattle.rules.specs.Image.{ImageRefused, data_section, mechanism_section, module_section, line_section, count_place, count, image_end, program_of}
use Rattle.image.specs.declared.sections.Kind.TheVariants.{Data, Mechanisms, Modules, Lines}
use Rattle.image.specs.Refusals.{RefusedBy}
use Rattle.image.specs.Reading.{Found}
use Rattle.image.proofs.Places.{Clear, clear_none, refused_left_over, refused_total, sound}
use Rattle.image.proofs.Verdict.{missing_refused, found_at, passed, is_section, part_long, part_end, bits_held, outside_refused, lengths_are, starts_are}
use Rattle.image.proofs.reading.read_image.Goals as goal
use Rattle.image.proofs.reading.read_image.Goals.{In_ok-data, In_ok-mechanisms, After-check_activations, In_ok-check_activations, In_ok-modules, In_ok-lines, After-unit_starts-total, After-part-4}

pub returns-in_err-data : goal.returns-in_err-data
returns-in_err-data c =
    let refused = missing_refused c.args.image.now _ data_section 0 _ refl refl (clear_none c.args.image.now) c.in_err-data.ensures.section in
    search rules

-- behind the data stands the mechanisms' count, and all before it is in order
module _ (c : In_ok-data) where
  mechanisms_at : c.section.new.self.place ≡ count_place c.args.image.now mechanism_section
  mechanisms_at = part_end c.args.image.now Data _ c.in_ok-data.ensures.section.1 _ c.in_ok-data.ensures.section.0

  clear_1 : Clear c.args.image.now (count_place c.args.image.now mechanism_section)
  clear_1 = passed c.args.image.now Data _ c.in_ok-data.ensures.section.1 (clear_none c.args.image.now) (λ e. cc)

pub returns-in_err-mechanisms : goal.returns-in_err-mechanisms
returns-in_err-mechanisms c =
    let d = (goal.at.returns-in_err-mechanisms c).In_ok-data in
    let refused = missing_refused c.args.image.now _ mechanism_section _ _ c.in_ok-data.ensures.image (mechanisms_at d) (clear_1 d) c.in_err-mechanisms.ensures.section in
    search rules

module _ (c : In_ok-mechanisms) where
  mechanisms_found : Found c.args.image.now (count_place c.args.image.now mechanism_section) Mechanisms c.in_ok-mechanisms.mechanisms
  mechanisms_found = found_at c.args.image.now _ Mechanisms _ _ c.in_ok-data.ensures.image (mechanisms_at (goal.at.In_ok-mechanisms c).In_ok-data) c.in_ok-mechanisms.ensures.section.1

  modules_at : c.section-2.new.self.place ≡ count_place c.args.image.now module_section
  modules_at = part_end c.args.image.now Mechanisms _ mechanisms_found _ c.in_ok-mechanisms.ensures.section.0

  same_2 : c.section-2.new.self.image.now ≡ c.args.image.now
  same_2 = c.in_ok-mechanisms.ensures.image ∙ c.in_ok-data.ensures.image

-- the number of data bits that the activation bits are held against
limit : (c : After-check_activations) → 8 * length c.part.result.bytes.now ≡ 8 * count c.args.image.now data_section
limit c = let l = part_long c.args.image.now Data _ c.in_ok-data.ensures.section.1 _ c.part.ensures in omega arith

pub returns-in_err-check_activations : goal.returns-in_err-check_activations
returns-in_err-check_activations c =
    let at = goal.at.returns-in_err-check_activations c in
    let refused = outside_refused c.args.image.now _ (mechanisms_found at.In_ok-mechanisms) _ c.part-2.ensures _ (limit at.After-check_activations) _ (clear_1 at.In_ok-data) c.in_err-check_activations.ensures in
    search rules

clear_2 : (c : In_ok-check_activations) → Clear c.args.image.now (count_place c.args.image.now module_section)
clear_2 c =
    let at = goal.at.In_ok-check_activations c in
    let found = mechanisms_found at.In_ok-mechanisms in
    passed c.args.image.now Mechanisms _ found (clear_1 at.In_ok-data) (λ e. bits_held c.args.image.now _ found _ c.part-2.ensures _ (limit at.After-check_activations) c.in_ok-check_activations.ensures)

pub returns-in_err-modules : goal.returns-in_err-modules
returns-in_err-modules c =
    let at = goal.at.returns-in_err-modules c in
    let refused = missing_refused c.args.image.now _ module_section _ _ (same_2 at.In_ok-mechanisms) (modules_at at.In_ok-mechanisms) (clear_2 at.In_ok-check_activations) c.in_err-modules.ensures.section in
    search rules

module _ (c : In_ok-modules) where
  modules_found : Found c.args.image.now (count_place c.args.image.now module_section) Modules c.in_ok-modules.modules
  modules_found = let m = (goal.at.In_ok-modules c).In_ok-mechanisms in found_at c.args.image.now _ Modules _ _ (same_2 m) (modules_at m) c.in_ok-modules.ensures.section.1

  lines_at : c.section-3.new.self.place ≡ count_place c.args.image.now line_section
  lines_at = part_end c.args.image.now Modules _ modules_found _ c.in_ok-modules.ensures.section.0

  same_3 : c.section-3.new.self.image.now ≡ c.args.image.now
  same_3 = c.in_ok-modules.ensures.image ∙ same_2 (goal.at.In_ok-modules c).In_ok-mechanisms

  clear_3 : Clear c.args.image.now (count_place c.args.image.now line_section)
  clear_3 = passed c.args.image.now Modules _ modules_found (clear_2 (goal.at.In_ok-modules c).In_ok-check_activations) (λ e. cc)

pub returns-in_err-lines : goal.returns-in_err-lines
returns-in_err-lines c =
    let m = (goal.at.returns-in_err-lines c).In_ok-modules in
    let refused = missing_refused c.args.image.now _ line_section _ _ (same_3 m) (lines_at m) (clear_3 m) c.in_err-lines.ensures.section in
    search rules

module _ (c : In_ok-lines) where
  lines_found : Found c.args.image.now (count_place c.args.image.now line_section) Lines c.in_ok-lines.lines
  lines_found = let m = (goal.at.In_ok-lines c).In_ok-modules in found_at c.args.image.now _ Lines _ _ (same_3 m) (lines_at m) c.in_ok-lines.ensures.section.1

  end_at : c.section-4.new.self.place ≡ image_end c.args.image.now
  end_at = part_end c.args.image.now Lines _ lines_found _ c.in_ok-lines.ensures.section.0

  same_4 : c.section-4.new.self.image.now ≡ c.args.image.now
  same_4 = c.in_ok-lines.ensures.image ∙ same_3 (goal.at.In_ok-lines c).In_ok-modules

  clear_4 : Clear c.args.image.now (image_end c.args.image.now)
  clear_4 = passed c.args.image.now Lines _ lines_found (clear_3 (goal.at.In_ok-lines c).In_ok-modules) (λ e. cc)

pub returns-in_err-finish : goal.returns-in_err-finish
returns-in_err-finish c =
    let d = (goal.at.returns-in_err-finish c).In_ok-lines in
    let image = c.args.image.now in
    let told = c.in_err-finish.ensures in
    let end = end_at d in
    let long = ap length (same_4 d) in
    let refused = subst (RefusedBy image) (sym told.1) (subst (ImageRefused image 4) (sym end) (refused_left_over image (clear_4 d) (omega arith))) in
    search rules

module _ (c : After-unit_starts-total) where
  -- the image ends where its last section does
  ended : length c.args.image.now ≡ image_end c.args.image.now
  ended =
      let d = (goal.at.After-unit_starts-total c).In_ok-lines in
      let end = end_at d in
      let all = c.in_ok-finish.ensures in
      let long = ap length (same_4 d) in
      let inside = (lines_found d).held in
      omega arith

  -- the sum of the lengths is that of its program
  sum : c.unit_starts-total.result.1 ≡ total (program_of c.args.image.now).lengths
  sum = c.unit_starts-total.ensures.lines ∙ ap total (lengths_are c.args.image.now _ (modules_found (goal.at.After-unit_starts-total c).In_ok-modules) _ c.part-3.ensures)

-- and so is the number of lines
line_count : (c : After-part-4) → length c.part-4.result.bytes.now / 4 ≡ count c.args.image.now line_section
line_count c = let l = part_long c.args.image.now Lines _ (lines_found (goal.at.After-part-4 c).In_ok-lines) _ c.part-4.ensures in omega arith

pub returns-then-total-part : goal.returns-then-total-part
returns-then-total-part c =
    let at = goal.at.returns-then-total-part c in
    let u = at.After-unit_starts-total in
    let image = c.args.image.now in
    subst (ImageRefused image 5) (sym (lines_at at.In_ok-modules))
    (refused_total image (clear_4 at.In_ok-lines) (ended u) (λ e. c.if-total-part.true (sum u ∙ e ∙ sym (line_count at.After-part-4))))

pub invariant_of-result : goal.invariant_of-result
invariant_of-result c =
    let at = goal.at.invariant_of-result c in
    let u = at.After-unit_starts-total in
    let image = c.args.image.now in
    let m = modules_found at.In_ok-modules in
    record {
      sound = sound image (clear_4 at.In_ok-lines) (ended u) (sym (sum u) ∙ c.if-total-part.false ∙ line_count at.After-part-4);
      data_is = is_section image Data _ c.in_ok-data.ensures.section.1;
      mechanisms_are = is_section image Mechanisms _ (mechanisms_found at.In_ok-mechanisms);
      modules_are = is_section image Modules _ m;
      lines_are = is_section image Lines _ (lines_found at.In_ok-lines);
      starts_are = starts_are image _ m _ c.part-3.ensures _ c.unit_starts-total.ensures.starts;
    }
