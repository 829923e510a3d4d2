use Rattle.reg_laws.proofs.Reaching.{reached_next, register_of_more}
use Rattle.reg_laws.proofs.reached.entries_reach_registers.Goals as goal

pub returns-clause-next : goal.returns-clause-next
returns-clause-next c = reached_next

pub returns-clause-more : goal.returns-clause-more
returns-clause-more c = register_of_more
