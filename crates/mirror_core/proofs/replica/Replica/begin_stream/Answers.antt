use Rattle.std.proofs.Common.{rules}
use Rattle.mirror_core.proofs.replica.Replica.begin_stream.Goals as goal

pub returns-clause-said : goal.returns-clause-said
returns-clause-said c = search rules
