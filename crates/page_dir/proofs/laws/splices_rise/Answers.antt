use Rattle.page_dir.proofs.Rising.{meets_from, rises-spliced}
use Rattle.page_dir.proofs.laws.splices_rise.Goals as goal

pub returns-clause-ends : goal.returns-clause-ends
returns-clause-ends g c = rises-spliced g.K.Ord.cmp g.met.K.Ord.total

pub returns-clause-from : goal.returns-clause-from
returns-clause-from g c = meets_from g.K.Ord.cmp g.met.K.Ord.total
