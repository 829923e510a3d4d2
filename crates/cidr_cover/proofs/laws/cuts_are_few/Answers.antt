use Rattle.cidr_cover.proofs.Fewness.{reverse_cuts-few}
use Rattle.cidr_cover.proofs.laws.cuts_are_few.Goals as goal

pub returns : goal.returns
returns c = reverse_cuts-few
