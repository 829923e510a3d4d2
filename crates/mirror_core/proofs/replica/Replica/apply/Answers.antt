use Rattle.std.proofs.Common.{rules}
use Rattle.mirror_core.proofs.replica.Replica.apply.Goals as goal

pub returns-in_ok-operate-clause-said : goal.returns-in_ok-operate-clause-said
returns-in_ok-operate-clause-said c = search rules
