use Rattle.addr_text.proofs.Once.{block_once, range_once}
use Rattle.addr_text.proofs.laws.spells_one.Goals as goal

pub returns-clause-block : goal.returns-clause-block
returns-clause-block c = block_once

pub returns-clause-range : goal.returns-clause-range
returns-clause-range c = range_once
