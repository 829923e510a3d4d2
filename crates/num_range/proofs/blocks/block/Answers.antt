use Rattle.std.proofs.Common.{rules}
use Rattle.num_range.proofs.blocks.block.Goals as goal

pub returns-clause-fits : goal.returns-clause-fits
returns-clause-fits c = search rules
