use Rattle.addr_text.proofs.Valid.{range_valid}
use Rattle.addr_text.proofs.laws.spells_valid.Goals as goal

pub returns-clause-range : goal.returns-clause-range
returns-clause-range c = range_valid
