use Rattle.reg_entry.proofs.Statuses.{statuses_add_up}
use Rattle.reg_entry.proofs.laws.statuses_add_up.Goals as goal

pub returns : goal.returns
returns c = statuses_add_up
