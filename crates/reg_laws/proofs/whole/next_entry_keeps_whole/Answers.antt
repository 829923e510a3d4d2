use Rattle.reg_laws.proofs.WholeStep.{next_whole}
use Rattle.reg_laws.proofs.whole.next_entry_keeps_whole.Goals as goal

pub returns : goal.returns
returns c = next_whole
