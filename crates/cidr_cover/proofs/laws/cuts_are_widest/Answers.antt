use Rattle.cidr_cover.proofs.Cutting.{reverse_cuts-are, reverse_cuts-rise}
use Rattle.cidr_cover.proofs.laws.cuts_are_widest.Goals as goal

pub returns : goal.returns
returns c = record { cuts = reverse_cuts-are; rises = reverse_cuts-rise }
