use Rattle.reg_entry.proofs.LeastBlock.{least_block_is_least}
use Rattle.reg_entry.proofs.laws.block_is_least.Goals as goal

pub returns : goal.returns
returns c = least_block_is_least
