use Rattle.std.proofs.Common.{arith}
use Rattle.std.proofs.lemmas.Grind.{common_steps}
use Rattle.desk_lang.proofs.line.line_of_verb.Goals as goal

pub returns-in-Unreserve-clause-value : goal.returns-in-Unreserve-clause-value
returns-in-Unreserve-clause-value c = cc

pub returns-in-Edit-clause-value : goal.returns-in-Edit-clause-value
returns-in-Edit-clause-value c = grind (arith, common_steps)

pub returns-in-Unsub-clause-value : goal.returns-in-Unsub-clause-value
returns-in-Unsub-clause-value c = grind (arith, common_steps)

pub returns-in-Split-clause-value : goal.returns-in-Split-clause-value
returns-in-Split-clause-value c = grind (arith, common_steps)

pub returns-in-Transfer-clause-value : goal.returns-in-Transfer-clause-value
returns-in-Transfer-clause-value c = grind (arith, common_steps)

pub returns-in-By-clause-value : goal.returns-in-By-clause-value
returns-in-By-clause-value c = grind (arith, common_steps)
