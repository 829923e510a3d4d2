use Rattle.cidr_cover.proofs.Covering.{least_cover-exact, least_cover-rises}
use Rattle.cidr_cover.proofs.Totals.{least_cover-size}
use Rattle.cidr_cover.proofs.laws.cover_is_exact.Goals as goal

pub returns : goal.returns
returns c = record { exact = least_cover-exact; rises = least_cover-rises; sizes = least_cover-size }
