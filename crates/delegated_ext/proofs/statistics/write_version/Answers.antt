use Rattle.std.proofs.Common.{rules}
use Rattle.delegated_ext.proofs.statistics.write_version.Goals as goal

pub returns : goal.returns
returns c = search rules
