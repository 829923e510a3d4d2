use Rattle.rdap_query.proofs.Lengths.{short_segments}
use Rattle.rdap_query.proofs.laws.paths_have_short_segments.Goals as goal

pub returns : goal.returns
returns c = short_segments
