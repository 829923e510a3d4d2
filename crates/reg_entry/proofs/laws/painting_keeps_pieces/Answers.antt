use Rattle.reg_entry.proofs.Laying.{laid_keeps}
use Rattle.reg_entry.proofs.laws.painting_keeps_pieces.Goals as goal

pub returns : goal.returns
returns c = laid_keeps
