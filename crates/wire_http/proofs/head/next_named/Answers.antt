use Rattle.std.proofs.Common.{arith}
use Rattle.std.proofs.lemmas.Grind.{common_steps, pieces, elements}
use Rattle.wire_http.proofs.head.next_named.Goals as goal

pub returns-then-same_name-clause-some : goal.returns-then-same_name-clause-some
returns-then-same_name-clause-some c = grind (arith, common_steps)

pub returns-then-same_name-clause-within : goal.returns-then-same_name-clause-within
returns-then-same_name-clause-within c = search (pieces, arith)

pub loop-left-preserved : goal.loop-left-preserved
loop-left-preserved c = grind (arith, elements)

pub returns-clause-none : goal.returns-clause-none
returns-clause-none c = grind (arith, common_steps)
