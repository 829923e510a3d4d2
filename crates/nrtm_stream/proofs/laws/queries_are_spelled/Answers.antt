use Rattle.nrtm_stream.proofs.Spelled.{query_spelled, query_read, asks_spelled}
use Rattle.nrtm_stream.proofs.laws.queries_are_spelled.Goals as goal

pub returns : goal.returns
returns c = record { read = λ line q. (query_read line q, query_spelled line q); asked = asks_spelled }
