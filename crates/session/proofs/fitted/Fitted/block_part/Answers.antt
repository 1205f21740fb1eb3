use Rattle.std.proofs.Common.{refl}
use Rattle.rules.specs.Session.{idle}
use Rattle.session.proofs.Blocks.{preparing, closing}
use Rattle.session.proofs.fitted.Fitted.block_part.Goals as goal

pub returns-in-Idle-clause-part : goal.returns-in-Idle-clause-part
returns-in-Idle-clause-part c = idle c.in-Idle.is refl refl

pub returns-in-Preparing-clause-part : goal.returns-in-Preparing-clause-part
returns-in-Preparing-clause-part c = let r = c.block_pass.ensures.passes in preparing c.in-Preparing.is r.1 r.2

pub returns-in-Closing-clause-part : goal.returns-in-Closing-clause-part
returns-in-Closing-clause-part c = let r = c.block_pass-in-Closing.ensures.passes in closing c.in-Closing.is r.1 r.2
