use Rattle.nrtm_stream.proofs.Sources.{named_in_capitals}
use Rattle.nrtm_stream.proofs.laws.names_are_sources.Goals as goal

pub returns : goal.returns
returns c = named_in_capitals
