use Rattle.std.proofs.Common.{rules}
use Rattle.wire_http.proofs.head.served_length.Goals as goal

pub returns-in-Some-2 : goal.returns-in-Some-2
returns-in-Some-2 c = search rules
