use Rattle.reg_laws.proofs.WholeStep.{legal_whole}
use Rattle.reg_laws.proofs.whole.legal_entries_are_whole.Goals as goal

pub returns : goal.returns
returns c = legal_whole
