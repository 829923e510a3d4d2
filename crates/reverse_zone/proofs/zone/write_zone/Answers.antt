use Rattle.std.proofs.Common.{rules}
use Rattle.reverse_zone.proofs.zone.write_zone.Goals as goal

pub returns : goal.returns
returns c = search rules
