use Rattle.std.proofs.Common.{arith}
use Rattle.std.proofs.lemmas.Grind.{common_steps}
use Rattle.hall.proofs.receive.receive.Goals as goal

pub returns-in_err-count-clause-received : goal.returns-in_err-count-clause-received
returns-in_err-count-clause-received g c = grind (arith, common_steps)

pub returns-in_err-count-clause-budget : goal.returns-in_err-count-clause-budget
returns-in_err-count-clause-budget g c = grind (arith, common_steps)

pub returns-in_err-count-clause-cause : goal.returns-in_err-count-clause-cause
returns-in_err-count-clause-cause g c = grind (arith, common_steps)

pub push-requires : goal.push-requires
push-requires g c = grind (arith, common_steps)

pub returns-clause-budget : goal.returns-clause-budget
returns-clause-budget g c = grind (arith, common_steps)

pub returns-clause-cause : goal.returns-clause-cause
returns-clause-cause g c = grind (arith, common_steps)
