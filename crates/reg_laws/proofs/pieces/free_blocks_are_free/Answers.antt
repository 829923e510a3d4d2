use Rattle.reg_laws.proofs.FreeBlocks.{free_block_is_free}
use Rattle.reg_laws.proofs.pieces.free_blocks_are_free.Goals as goal

pub returns : goal.returns
returns c = free_block_is_free
