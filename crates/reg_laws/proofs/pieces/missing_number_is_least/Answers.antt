use Rattle.reg_laws.proofs.FreeBlocks.{missing_is_least}
use Rattle.reg_laws.proofs.pieces.missing_number_is_least.Goals as goal

pub returns : goal.returns
returns c = missing_is_least
