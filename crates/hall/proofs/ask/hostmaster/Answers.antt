use Rattle.std.proofs.Common.{rules}
use Rattle.hall.proofs.ask.hostmaster.Goals as goal

pub returns : goal.returns
returns c = search rules
