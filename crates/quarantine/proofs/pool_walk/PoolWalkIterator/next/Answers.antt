use Rattle.std.proofs.Common.{rules}
use Rattle.quarantine.proofs.pool_walk.PoolWalkIterator.next.Goals as goal

pub returns-clause-steps : goal.returns-clause-steps
returns-clause-steps c = search rules
