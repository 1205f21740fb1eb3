use Rattle.lines.proofs.OtherBits.{only_that_bit}
use Rattle.lines.proofs.laws.a_write_changes_one_bit.Goals as goal

pub returns : goal.returns
returns c = only_that_bit
