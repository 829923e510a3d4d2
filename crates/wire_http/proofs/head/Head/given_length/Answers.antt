use Rattle.std.proofs.Common.{rules}
use Rattle.wire_http.proofs.head.Head.given_length.Goals as goal

pub returns-in-Never : goal.returns-in-Never
returns-in-Never c = search rules
