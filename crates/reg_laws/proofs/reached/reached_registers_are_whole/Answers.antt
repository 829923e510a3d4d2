use Rattle.reg_laws.proofs.Reaching.{reached_whole}
use Rattle.reg_laws.proofs.reached.reached_registers_are_whole.Goals as goal

pub returns : goal.returns
returns c = reached_whole
