use Rattle.certificate.proofs.Scanning.{longer_init, longer_done}
use Rattle.certificate.proofs.scan.longer_block.Goals as goal

pub returns-then-block_init-block_done : goal.returns-then-block_init-block_done
returns-then-block_init-block_done c = longer_done _ c.in_ok-block_init.ensures c.in_ok-block_done.ensures c.if-block_init-block_done.true

pub returns-else-block_init-block_done : goal.returns-else-block_init-block_done
returns-else-block_init-block_done c = longer_init _ c.in_ok-block_init.ensures c.in_ok-block_done.ensures c.if-block_init-block_done.false
