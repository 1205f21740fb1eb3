use Rattle.std.proofs.Common.{arith}
use Rattle.std.proofs.lemmas.Int.{ints}
use Rattle.lines.proofs.numbers.at_least.Goals as goal

pub returns-in-One : goal.returns-in-One
returns-in-One c = let h = rw c.in-One.is at c.requires in rw c.in-One.is (grind (arith, ints))

pub returns-in-Two : goal.returns-in-Two
returns-in-Two c = let h = rw c.in-Two.is at c.requires in rw c.in-Two.is (grind (arith, ints))

pub returns-in-Four : goal.returns-in-Four
returns-in-Four c = let h = rw c.in-Four.is at c.requires in rw c.in-Four.is (grind (arith, ints))
