use Rattle.std.proofs.Common.{rules}
use Rattle.reg_entry.proofs.servers.Servers.new.Goals as goal

pub returns-clause-fits : goal.returns-clause-fits
returns-clause-fits c = search rules
