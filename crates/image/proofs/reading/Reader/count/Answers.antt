use Rattle.std.proofs.Common.{◌≡◌, ◌∙◌, sym, ap, add-zero, rules, arith}
use Rattle.rules.specs.Image.{pair_at}
use Rattle.std.proofs.lemmas.Bool.Decides.{nat_tests}
use Rattle.image.specs.Reading.{short_count, bad_count}
use Rattle.image.proofs.Pairs.{part_pair}
use Rattle.image.proofs.reading.Reader.count.Goals as goal
use Rattle.image.proofs.reading.Reader.count.Goals.{After-from-n}

pub returns-in_err-part-clause-count : goal.returns-in_err-part-clause-count
returns-in_err-part-clause-count c = search (rules, short_count)

-- the number that was read
number : (c : After-from-n) → c.from-n.result ≡ pair_at c.args.self.now.image.now c.args.self.now.place
number c =
    let told = c.in_ok-part.ensures.part in
    let image = c.args.self.now.image.now in
    let e = part_pair image c.in_ok-part.part.bytes.now c.args.self.now.place 2 0 told.2.bytes (omega arith) in
    let at = ap (pair_at image) (add-zero c.args.self.now.place) in
    omega arith

pub returns-then-not-contains-clause-count : goal.returns-then-not-contains-clause-count
returns-then-not-contains-clause-count c =
    let n = number (goal.at.returns-then-not-contains-clause-count c).After-from-n in
    let told = c.in_ok-part.ensures.part in
    let test = sym c.contains.ensures.value ∙ c.if-not-contains.true in
    rw told.2.at (bad_count told.1 (grind (arith, nat_tests)))
