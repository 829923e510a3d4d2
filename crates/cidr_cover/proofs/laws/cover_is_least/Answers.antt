use Rattle.cidr_cover.proofs.Least.{least_cover-least}
use Rattle.cidr_cover.proofs.Totals.{least_cover-few}
use Rattle.cidr_cover.proofs.laws.cover_is_least.Goals as goal

pub returns : goal.returns
returns c = record { least = least_cover-least; few = least_cover-few }
