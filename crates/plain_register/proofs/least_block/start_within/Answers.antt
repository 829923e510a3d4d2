use Rattle.std.proofs.Common.{rules}
use Rattle.plain_register.proofs.least_block.start_within.Goals as goal

pub returns-clause-block : goal.returns-clause-block
returns-clause-block c = search rules
