use Rattle.page_dir.proofs.Looking.{last_at_most-before, last_at_most-behind, last_at_most-spliced}
use Rattle.page_dir.proofs.laws.splices_are_searched.Goals as goal

pub returns-clause-whole : goal.returns-clause-whole
returns-clause-whole g c = last_at_most-spliced g.K.Ord.cmp

pub returns-clause-before : goal.returns-clause-before
returns-clause-before g c = last_at_most-before g.K.Ord.cmp g.met.K.Ord.total

pub returns-clause-behind : goal.returns-clause-behind
returns-clause-behind g c = last_at_most-behind g.K.Ord.cmp
