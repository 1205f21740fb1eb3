use Rattle.std.proofs.Common.{◌<◌, length, vec_items, arith}
use Rattle.std.proofs.lemmas.List.{get_or_read}
use Rattle.rules.specs.Program.{no_line}
use Rattle.walk.proofs.Givens.{unit_sound}
use Rattle.walk.proofs.unit_text.UnitText.line.Goals as goal

pub index-requires : goal.index-requires
index-requires c = let u = c.args.self.now in omega (arith, c.requires, (unit_sound u).inside, u.end_is, u.formed.now.layout.program.lines.ok.0)

pub returns : goal.returns
returns c =
    let u = c.args.self.now in
    let room : c.args.l < length (vec_items u.formed.now.layout.program.lines) = omega (arith, c.requires, (unit_sound u).inside, u.end_is) in
    get_or_read _ _ _ room c.index.ensures no_line
