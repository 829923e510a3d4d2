use Rattle.std.proofs.Common.{rules, arith}
use Rattle.std.proofs.lemmas.Grind.{common_steps}
use Rattle.door_face.proofs.failing_gate.FailingGateGate.done.Goals as goal

pub returns-clause-risen : goal.returns-clause-risen
returns-clause-risen g c = search rules

pub returns-clause-given : goal.returns-clause-given
returns-clause-given g c = grind (arith, common_steps)

pub returns-clause-to_come : goal.returns-clause-to_come
returns-clause-to_come g c = grind (arith, common_steps)
