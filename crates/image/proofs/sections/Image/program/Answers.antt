use Rattle.std.proofs.Common.{◌≡◌, length, vec_items, ap, ◌∙◌}
use Rattle.rules.specs.Image.{data_section, mechanism_section, module_section, line_section, program_of}
use Rattle.image.proofs.Contents.{initial_is, activation_is, lengths_are, lines_are, in_range, bits_inside, all_lines}
use Rattle.image.proofs.sections.Image.program.Goals as goal
use Rattle.image.proofs.sections.Image.program.Goals.{In_ok-lines}

module _ (c : In_ok-lines) where
  initial : vec_items c.in_ok-initial.initial ≡ (program_of c.args.self.now.bytes.now).initial
  initial = c.in_ok-initial.ensures.0 ∙ initial_is _ c.args.self.now.sound _ _ c.part.ensures c.args.self.now.data_is

  activation : vec_items c.in_ok-activation.activation ≡ (program_of c.args.self.now.bytes.now).activation
  activation = c.in_ok-activation.ensures ∙ activation_is _ c.args.self.now.sound _ _ c.part-2.ensures c.args.self.now.mechanisms_are

  lengths : vec_items c.in_ok-lengths.lengths ≡ (program_of c.args.self.now.bytes.now).lengths
  lengths = c.in_ok-lengths.ensures ∙ lengths_are _ c.args.self.now.sound _ _ c.part-3.ensures c.args.self.now.modules_are

  lines : vec_items c.in_ok-lines.lines ≡ (program_of c.args.self.now.bytes.now).lines
  lines = c.in_ok-lines.ensures ∙ lines_are _ c.args.self.now.sound _ _ c.part-4.ensures c.args.self.now.lines_are

pub invariant_of-result : goal.invariant_of-result
invariant_of-result c =
    let at = (goal.at.invariant_of-result c).In_ok-lines in
    let image = c.args.self.now.bytes.now in
    let sound = c.args.self.now.sound in
    let d = c.in_ok-initial.initial.ok.0 ∙ ap length (initial at) in
    let n = c.in_ok-lines.lines.ok.0 ∙ ap length (lines at) in record {
      data_count = in_range image sound data_section _ d;
      mechanism_count = in_range image sound mechanism_section _ (c.in_ok-activation.activation.ok.0 ∙ ap length (activation at));
      module_count = in_range image sound module_section _ (c.in_ok-lengths.lengths.ok.0 ∙ ap length (lengths at));
      line_count = in_range image sound line_section _ n;
      bytes_small = c.in_ok-initial.ensures.1;
      bits_inside = bits_inside image sound _ _ (activation at) d;
      all_lines = all_lines image sound _ _ (lengths at) n;
    }

pub returns : goal.returns
returns c =
    let at = (goal.at.returns c).In_ok-lines in
    let a = initial at in
    let b = activation at in
    let l = lengths at in
    let d = lines at in
    λ i. record { initial = a i; activation = b i; lengths = l i; lines = d i }
