use Rattle.std.proofs.Common.{rules}
use Rattle.nrtm_stream.proofs.query.find_ask.Goals as goal

pub returns : goal.returns
returns c = search rules
