use Rattle.std.proofs.Common.{rules}
use Rattle.rdap_query.proofs.path.read_autnum.Goals as goal

pub returns-in-Some-None-clause-some : goal.returns-in-Some-None-clause-some
returns-in-Some-None-clause-some c = search rules
