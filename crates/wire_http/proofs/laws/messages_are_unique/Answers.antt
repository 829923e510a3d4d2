use Rattle.wire_http.proofs.Unique.{messages_once}
use Rattle.wire_http.proofs.laws.messages_are_unique.Goals as goal

pub returns : goal.returns
returns c = messages_once
