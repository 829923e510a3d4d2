use Rattle.reg_entry.proofs.Overlaps.{overlap_is_least}
use Rattle.reg_entry.proofs.laws.overlap_is_least.Goals as goal

pub returns : goal.returns
returns c = overlap_is_least
