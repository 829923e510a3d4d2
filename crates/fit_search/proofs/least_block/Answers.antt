use Rattle.std.proofs.Common.{rules}
use Rattle.fit_search.proofs.least_block.Goals as goal

pub returns-clause-block : goal.returns-clause-block
returns-clause-block c = search rules
