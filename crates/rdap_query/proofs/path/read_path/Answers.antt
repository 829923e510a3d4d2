use Rattle.std.proofs.Common.{arith}
use Rattle.std.proofs.lemmas.Grind.{common_steps, elements}
use Rattle.rdap_query.proofs.path.read_path.Goals as goal

pub returns-in_ok-read_network-in-105-clause-some :
    goal.returns-in_ok-read_network-in-105-clause-some
returns-in_ok-read_network-in-105-clause-some c = grind (arith, common_steps)

pub returns-in-104-clause-some : goal.returns-in-104-clause-some
returns-in-104-clause-some c = grind (arith, common_steps)

pub returns-in_ok-read_autnum-in-97-clause-some : goal.returns-in_ok-read_autnum-in-97-clause-some
returns-in_ok-read_autnum-in-97-clause-some c = grind (arith, elements)
