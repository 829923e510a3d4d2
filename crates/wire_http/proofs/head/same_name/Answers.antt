use Rattle.std.proofs.Common.{rules}
use Rattle.wire_http.proofs.head.same_name.Goals as goal

pub returns : goal.returns
returns c = search rules
