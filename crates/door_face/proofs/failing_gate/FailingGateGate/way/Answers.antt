use Rattle.std.proofs.Common.{arith}
use Rattle.std.proofs.lemmas.Grind.{common_steps}
use Rattle.door_face.proofs.failing_gate.FailingGateGate.way.Goals as goal

pub returns-clause-other : goal.returns-clause-other
returns-clause-other g c = grind (arith, common_steps)

pub returns-2-clause-other : goal.returns-2-clause-other
returns-2-clause-other g c = grind (arith, common_steps)

pub returns-2-clause-cause : goal.returns-2-clause-cause
returns-2-clause-cause g c = grind (arith, common_steps)
